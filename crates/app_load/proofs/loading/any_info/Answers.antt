-- The reader's answer says what the bytes hold.
use Rattle.std.proofs.Common.{ap, inl, refl, Err}
use Rattle.app_load.specs.Texts.{info_not_json_text, not_info_text}
use Rattle.app_load.specs.Wants.{info_on, info_not_json, not_info}
use Rattle.app_load.proofs.Loaded.{refused_as}
use Rattle.app_load.proofs.loading.any_info.Goals as goal

pub returns-in-Err-NotJson-clause-refused : goal.returns-in-Err-NotJson-clause-refused
returns-in-Err-NotJson-clause-refused c = λ m name.
    refused_as (info_on m) name c.args.bytes.now 16 info_not_json_text _ c.refused_info.ensures
    (refl, info_not_json (c.in-Err-NotJson.ensures.not_json (ap Err c.in-Err-NotJson.field-0-is)))

pub returns-in-Err-NotInfo-clause-refused : goal.returns-in-Err-NotInfo-clause-refused
returns-in-Err-NotInfo-clause-refused c = λ m name.
    refused_as (info_on m) name c.args.bytes.now 16 not_info_text _ c.refused_info-in-Err-NotInfo.ensures
    (refl, not_info (c.in-Err-NotInfo.ensures.not_info (ap Err c.in-Err-NotInfo.field-0-is)))

pub returns-in-Err-NoMemory-clause-refused : goal.returns-in-Err-NoMemory-clause-refused
returns-in-Err-NoMemory-clause-refused c = λ m name. inl refl
