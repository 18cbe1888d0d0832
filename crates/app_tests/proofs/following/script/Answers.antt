-- The script, by the bytes of its name.
use Rattle.std.proofs.Common.{◌≡◌, ◌∙◌, List, [], ◌∷◌, ℤ, ap, ap₂, refl}
use Rattle.std.specs.Prelude.{codes}
use Rattle.leb_binary.proofs.Texts.{texts_alike}
use Rattle.module_ast.specs.Ascii.{ascii_text}
use Rattle.module_ast.specs.Texts.{Text}
use Rattle.wasm_sem.specs.declared.Call.{Call}
use Rattle.wasm_sem.specs.declared.HostAnswer.{HostAnswer}
use Rattle.wasm_sem.specs.declared.Script.{Script}
use Rattle.app_tests.proofs.following.script.Goals as goal

abbrev call_with : (export : Text) (args : List ℤ) → Call
call_with export args = record { export = export; args = args }

abbrev script_with : (calls : List Call) (hosts : List HostAnswer) (globals : List ℤ) → Script
script_with calls hosts globals = record { calls = calls; hosts = hosts; globals = globals; pages = 1; depth = 10; steps = 60 }

abbrev name : Text
name = ascii_text (codes "f") refl

pub returns : goal.returns
returns c =
    let export : c.from_string.result ≡ name = texts_alike c.from_string.result name (c.from_string.ensures ∙ c.in_ok-from_str.ensures.ok) in
    let args = c.from_vec.ensures ∙ c.new.ensures.items in
    let calls = c.from_vec-2.ensures ∙ c.in_ok-from_array.ensures.items ∙ ap₂ (λ t a. call_with t a ∷ []) export args in
    ap (λ cs. script_with cs c.from_vec-3.result c.from_vec-4.result) calls
    ∙ ap (λ hs. script_with (call_with name [] ∷ []) hs c.from_vec-4.result) (c.from_vec-3.ensures ∙ c.new-2.ensures.items)
    ∙ ap (script_with (call_with name [] ∷ []) []) (c.from_vec-4.ensures ∙ c.new-3.ensures.items)
