use Rattle.std.proofs.Common.{◌++◌, ◌∷◌, [], cond, ap, sym, ◌∙◌}
use Rattle.std.proofs.lemmas.List.Sums.{fold-append}
use Rattle.hook_mono.specs.Keys.{key_eq, with_key}
use Rattle.hook_mono.proofs.Places.{as_cond, some_place}
use Rattle.static_info.proofs.forms.key_set.Goals as goal

pub loop-key-preserved : goal.loop-key-preserved
loop-key-preserved c =
    let keys = c.loop-key.set.keys in
    let key = c.in-Some.key in
    record {
      next = tt;
      ends = tt;
      so_far =
          c.in_ok-insert_full.ensures.keys ∙ as_cond _ keys (keys ++ key ∷ [])
          ∙ ap (λ b. cond b keys (keys ++ key ∷ [])) (sym (some_place (key_eq key) keys))
          ∙ ap (λ ks. with_key ks key) c.loop-key.invariant.so_far
          ∙ sym (fold-append with_key [] c.loop-key.yielded (key ∷ []));
    }
