-- The reader's answer says what the bytes are.
use Rattle.std.proofs.Common.{ap, inl, refl, Err}
use Rattle.app_load.specs.Texts.{not_json_text, wrong_script_text}
use Rattle.app_load.specs.Wants.{a_script, not_json, wrong_script}
use Rattle.app_load.proofs.Loaded.{refused_as}
use Rattle.app_load.proofs.loading.script_of.Goals as goal

pub returns-in-Err-NotJson-clause-refused : goal.returns-in-Err-NotJson-clause-refused
returns-in-Err-NotJson-clause-refused c = λ name.
    refused_as a_script name c.args.bytes.now 10 not_json_text _ (c.refused.ensures _ c.from_str.ensures.ok)
    (refl, not_json (c.in-Err-NotJson.ensures.not_json (ap Err c.in-Err-NotJson.field-0-is)))

pub returns-in-Err-NotScript-clause-refused : goal.returns-in-Err-NotScript-clause-refused
returns-in-Err-NotScript-clause-refused c =
    let w = c.in-Err-NotScript.ensures.not_script _ (ap Err c.in-Err-NotScript.field-0-is) in
    λ name. refused_as a_script name c.args.bytes.now 10 (wrong_script_text _) _ (c.refused-in-Err-NotScript.ensures _ c.format.ensures.ok)
    (refl, wrong_script w.0 _ w.1 w.2)

pub returns-in-Err-NoMemory-clause-refused : goal.returns-in-Err-NoMemory-clause-refused
returns-in-Err-NoMemory-clause-refused c = λ name. inl refl
