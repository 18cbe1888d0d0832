-- What the beginning of a block makes of a state that it is fit for.
use Rattle.std.proofs.Common.{◌≡◌, ℤ, List, [], ◌∷◌, ◌++◌, Option, Some, None, IsSome, length, take, drop, refl, sym, ap, ◌∙◌, append-nil, subst}
use Rattle.std.specs.Prelude.{reverse}
use Rattle.std.proofs.lemmas.List.{reverse-reverse}
use Rattle.wasm_sem.specs.Types.{BlockKind, FuncType, Loc}
use Rattle.module_ast.specs.Validation.{block_type}
use Rattle.shadow_replay.specs.declared.blocks.Block.{Block}
use Rattle.shadow_replay.specs.Blocks.{block_at, label_arity}
use Rattle.shadow_replay.specs.Replayed.{Replay, block_begun}
use Rattle.shadow_replay.specs.Shadow.{ShadowFrame, Shadow, with_label, begins_typed, begins_block}
use Rattle.shadow_replay.specs.Stacked.{Has, label_opened_in}
use Rattle.shadow_replay.proofs.ShadowTakes.{popped_of, push_is}

-- its type is there, and what it takes, which comes to its label
pub record Begins (sh : Shadow) (kind : BlockKind) (begin : ℤ) (fs : List ShadowFrame) (t : Option FuncType) : Type 0 where
  pub type : FuncType
  pub at : t ≡ Some type
  pub has : Has (length type.params) fs
  pub is : begins_typed sh fs kind begin t ≡ Some (record sh { frames = label_opened_in kind begin (length type.params) (label_arity kind type) fs })

begins : (sh : Shadow) (kind : BlockKind) (begin : ℤ) (fs : List ShadowFrame) (t : Option FuncType) → IsSome (begins_typed sh fs kind begin t) → Begins sh kind begin fs t
begins sh kind begin [] t h = absurd cc
begins sh kind begin (fr ∷ below) None h = absurd cc
begins sh kind begin (fr ∷ below) (Some f) h =
    let n = length f.params in
    let o = fr.top.ops in
    let p = (popped_of (with_label sh fr below kind begin (label_arity kind f)) refl n o h).0 in
    record {
      type = f;
      at = refl;
      has = p.within;
      is = ap (with_label sh fr below kind begin (label_arity kind f)) p.is
          ∙ ap (λ vs. Some (record sh {
            frames = record fr { top = record { kind = kind; begin = begin; arity = label_arity kind f; ops = vs }; outer = record fr.top { ops = drop n o } ∷ fr.outer } ∷ below;
          }))
          (push_is (reverse (take n o) ++ []) [] ∙ append-nil (reverse (reverse (take n o) ++ [])) ∙ ap reverse (append-nil (reverse (take n o))) ∙ reverse-reverse (take n o));
    }

-- of the block that was found where it begins
pub begun_at : (r old : Replay) (l : Loc) (b : Block) (o : Option Block) → r ≡ old → o ≡ block_at r.module l → o ≡ Some b → IsSome (block_begun l old)
    → (block_at r.module l ≡ Some b) × Begins r.shadow.state b.kind l.instr r.shadow.state.frames (block_type r.module.types b.ty)
begun_at r old l b o e h is fit =
    let found = sym h ∙ is in (
      found,
      begins r.shadow.state b.kind l.instr r.shadow.state.frames (block_type r.module.types b.ty) (subst (λ b. IsSome (begins_block r.module r.shadow.state l.instr b)) found (subst (λ (r : Replay). IsSome (block_begun l r)) (sym e) fit)),
    )
