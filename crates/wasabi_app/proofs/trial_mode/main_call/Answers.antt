-- The call, by the bytes of its name.
use Rattle.std.proofs.Common.{◌≡◌, ◌∙◌, ◌%◌, ◌^◌, List, [], ◌∷◌, ℤ, pos, ap, arith, to_z, of_z}
use Rattle.std.specs.Int.{w128}
use Rattle.std.proofs.lemmas.Int.{ints}
use Rattle.leb_binary.proofs.Texts.{texts_alike}
use Rattle.module_ast.specs.Texts.{Text}
use Rattle.wasm_sem.specs.declared.Call.{Call}
use Rattle.module_gen.specs.Made.{main_text}
use Rattle.wasabi_app.proofs.trial_mode.main_call.Goals as goal

abbrev call_with : (export : Text) (args : List ℤ) → Call
call_with export args = record { export = export; args = args }

pub returns : goal.returns
returns c =
    let export : c.from_string.result ≡ main_text = texts_alike c.from_string.result main_text (c.from_string.ensures ∙ c.in_ok-from_str.ensures.ok) in
    let whole : to_z w128 (of_z w128 (pos (c.args.number % 2 ^ 32))) ≡ pos (c.args.number % 2 ^ 32) = omega (arith, ints) in
    let args =
    c.from_vec.ensures ∙ c.in_ok-from_array.ensures.items ∙ ap (λ (z : ℤ). to_z w128 (of_z w128 z) ∷ []) c.from-argument.ensures
    ∙ ap (λ (z : ℤ). z ∷ []) whole in
    ap (λ t. call_with t c.from_vec.result) export ∙ ap (call_with main_text) args
