-- Exported functions by their names.
use Rattle.std.proofs.Common.{◌≡◌, ℕ, List, [], ◌∷◌, ◌++◌, true, cond, ◌&&◌, Some, sym, ap, ◌∙◌, append_assoc}
use Rattle.std.specs.Str.{bytes_eq}
use Rattle.std.specs.Ordering.{nat_cmp}
use Rattle.std.specs.Cmp.Lexicographic.{slice_cmp}
use Rattle.std.specs.BTreeMap.{BTreeMap, UpdatesBy}
use Rattle.std.specs.Borrow.{Bor}
use Rattle.std.proofs.lemmas.Map.Text.{btree_map_updates_str}
use Rattle.wasm_sem.specs.Types.{Export}
use Rattle.wasm_sem.specs.Execution.{is_func, exported_func}
use Rattle.wasm_run.specs.Exported.{HasExports}

-- the map has those that stand behind what is left of them
pub record IsNamedBehind (t : BTreeMap (Bor (List ℕ)) ℕ) (left whole : List Export) : Type 0 where
  pub behind : List Export
  pub joined : whole ≡ left ++ behind
  pub named : HasExports t behind

-- one export less is left
pub moved : (left before whole behind : List Export) (e : Export) → left ≡ before ++ (e ∷ []) → whole ≡ left ++ behind → whole ≡ before ++ (e ∷ behind)
moved left before whole behind e split joined = joined ∙ ap (λ l. l ++ behind) split ∙ append_assoc before (e ∷ []) behind

-- it is one
pub named_more : (old new : BTreeMap (Bor (List ℕ)) ℕ) (behind : List Export) (e : Export) (key : List ℕ) → key ≡ e.name.bytes → is_func e.kind ≡ true
    → UpdatesBy (λ x y. slice_cmp nat_cmp x.now y.now) (λ k. slice_cmp nat_cmp key k.now) old new (Some e.index)
    → HasExports old behind → HasExports new (e ∷ behind)
named_more old new behind e key same is updates had = λ name.
    btree_map_updates_str key old new (Some e.index) updates name
    ∙ ap (cond (bytes_eq key name) (Some e.index)) (had name)
    ∙ ap (λ k. cond (bytes_eq k name) (Some e.index) (exported_func name behind)) same
    ∙ ap (λ b. cond (b && bytes_eq e.name.bytes name) (Some e.index) (exported_func name behind)) (sym is)
