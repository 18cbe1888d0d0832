-- The sizes are those of the module and of what was made.
use Rattle.std.proofs.Common.{◌≡◌, ◌∙◌, length, ap, rules}
use Rattle.std.proofs.lemmas.Result.{IfOk-weaker}
use Rattle.wasm_sem.specs.Types.{Module}
use Rattle.module_ast.specs.Binary.{module_bytes}
use Rattle.wasabi_app.proofs.TrialPairs.{sizes_alike}
use Rattle.wasabi_app.proofs.trial_mode.sizes.Goals as goal

pub returns : goal.returns
returns c =
    let bytes : c.encoded_length-bytes.result ≡ length (module_bytes c.args.m.now) =
    c.encoded_length-bytes.ensures.length ∙ ap (λ (x : Module). length (module_bytes x)) c.module.ensures.module in
    let output : c.len-output.result ≡ length c.args.hooked.now.bytes.items = search rules in
    let hooks : length c.as_slice-hooks.result.now ≡ length c.args.hooked.now.info.hooks = search rules in
    IfOk-weaker c.sizes_text.result _ _ (λ text is. is ∙ sizes_alike c.args.number _ _ _ _ _ _ _ _ bytes c.func_count-functions.ensures output hooks) c.sizes_text.ensures
