use Rattle.std.proofs.Common.{◌++◌, ◌∷◌, [], cond, ap, sym, ◌∙◌, Some, position}
use Rattle.hook_mono.specs.Keys.{key_eq, key_eq_laws, with_key}
use Rattle.hook_mono.proofs.Places.{as_cond, some_place, pushed_place}
use Rattle.hook_mono.proofs.table.HookTable.need.Goals as goal

pub returns-clause-keys : goal.returns-clause-keys
returns-clause-keys c =
    let keys = c.self.inside.keys.keys in
    let key = c.args.key in
    c.in_ok-place.ensures.keys ∙ as_cond _ keys (keys ++ key ∷ []) ∙ ap (λ b. cond b keys (keys ++ key ∷ [])) (sym (some_place (key_eq key) keys))
    ∙ ap (λ ks. with_key ks key) c.self.view_is

pub returns-clause-number : goal.returns-clause-number
returns-clause-number c =
    let keys = c.self.inside.keys.keys in
    let key = c.args.key in
    ap (position (key_eq key)) (c.in_ok-place.ensures.keys ∙ as_cond _ keys (keys ++ key ∷ []))
    ∙ pushed_place (key_eq key) keys key (key_eq_laws.refl key) ∙ ap Some (sym c.in_ok-place.ensures.index)
