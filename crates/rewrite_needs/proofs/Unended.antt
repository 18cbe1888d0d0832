-- The open blocks that no branch has left: the table knows the ends of the others.
--     AreUnended      which of the blocks around a place they are
--     leave_one, leave_none      out of the innermost block, and out of none
--     unended_each      the table with further keys
--     branched      a branch needs the ends of all blocks that it leaves
use Rattle.std.proofs.Common.{◌≡◌, ◌⊎◌, inl, inr, ℕ, suc, ◌-◌, ◌<◌, ◌≤◌, List, [], ◌∷◌, length, map, take, Bool, true, false, cond, leb, leb-true, leb-false, refl, sym, ap, ◌∙◌, subst, arith}
use Rattle.std.proofs.lemmas.Bool.{le-leb, lt-leb}
use Rattle.wasm_sem.specs.Types.{BlockKind, Hooks, HookKey}
use Rattle.hook_mono.specs.declared.HookKey.TheVariants as keys
use Rattle.rewrite_needs.specs.declared.needs.OpenBlock.{OpenBlock}
use Rattle.rewrite_needs.specs.Needing.{with_wanted, with_each_wanted, rest_left, all_left, with_ends}
use Rattle.rewrite_needs.proofs.Known.{IsKnown, known_stays, knows_itself, knows_more}

abbrev pub ends_of : List BlockKind → List HookKey
ends_of ks = map (λ k. keys.End k) ks

-- those of the blocks that a branch leaves which stays in so many
abbrev pub left_ends : (kept : ℕ) → List BlockKind → List HookKey
left_ends kept ks = ends_of (take (length ks - kept) ks)

abbrev pub entry_of : BlockKind → (around : ℕ) → OpenBlock
entry_of k around = record { around = around; kind = k }

-- of the blocks around a place, the innermost first, some are there; the ends of the others are known
abbrev pub AreUnended : Hooks → List HookKey → List BlockKind → List OpenBlock → Type 0
AreUnended hooks table [] stack = stack ≡ []
AreUnended hooks table (k ∷ ks) stack =
    ((bs : List OpenBlock) × (stack ≡ entry_of k (length ks) ∷ bs) × AreUnended hooks table ks bs) ⊎ (IsKnown hooks table (keys.End k) × AreUnended hooks table ks stack)

module _ (hooks : Hooks) where
  -- each is inside fewer blocks than the next place
  top_below : (table : List HookKey) (ks : List BlockKind) (b : OpenBlock) (bs : List OpenBlock) → AreUnended hooks table ks (b ∷ bs) → b.around < length ks
  top_below table [] b bs e = cc
  top_below table (k ∷ ks) b bs (inl (cs, e, h)) = let same : b ≡ entry_of k (length ks) = cc in let at : b.around ≡ length ks = ap (λ (c : OpenBlock). c.around) same in omega arith
  top_below table (k ∷ ks) b bs (inr (known, h)) = omega (arith, top_below table ks b bs h)

  -- ---- out of a block

  pub leave_none : (table : List HookKey) (ks : List BlockKind) (stack : List OpenBlock) → AreUnended hooks table ks stack → rest_left (length ks) stack ≡ stack
  leave_none table ks [] h = refl
  leave_none table ks (b ∷ bs) h = ap (λ t. cond t bs (b ∷ bs)) (lt-leb (length ks) b.around (top_below table ks b bs h))

  pub leave_one : (table : List HookKey) (k : BlockKind) (ks : List BlockKind) (stack : List OpenBlock) → AreUnended hooks table (k ∷ ks) stack → AreUnended hooks table ks (rest_left (length ks) stack)
  leave_one table k ks stack (inl (bs, e, h)) =
      let left : rest_left (length ks) stack ≡ bs = ap (rest_left (length ks)) e ∙ ap (λ t. cond t bs (entry_of k (length ks) ∷ bs)) (le-leb (length ks) (length ks) (omega arith)) in
      subst (AreUnended hooks table ks) (sym left) h
  leave_one table k ks stack (inr (known, h)) = subst (AreUnended hooks table ks) (sym (leave_none table ks stack h)) h

  -- ---- further keys

  unended_more : (table : List HookKey) (key : HookKey) (ks : List BlockKind) (stack : List OpenBlock) → AreUnended hooks table ks stack → AreUnended hooks (with_wanted hooks table key) ks stack
  unended_more table key [] stack h = h
  unended_more table key (k ∷ ks) stack (inl (bs, e, h)) = inl (bs, e, unended_more table key ks bs h)
  unended_more table key (k ∷ ks) stack (inr (known, h)) = inr (knows_more hooks table (keys.End k) key known, unended_more table key ks stack h)

  pub unended_each : (table more : List HookKey) (ks : List BlockKind) (stack : List OpenBlock) → AreUnended hooks table ks stack → AreUnended hooks (with_each_wanted hooks table more) ks stack
  unended_each table [] ks stack h = h
  unended_each table (key ∷ more) ks stack h = unended_each (with_wanted hooks table key) more ks stack (unended_more table key ks stack h)

  -- ---- a branch

  module _ (kept : ℕ) where
    no_ends : (table : List HookKey) (ks : List BlockKind) → length ks ≤ kept → with_each_wanted hooks table (left_ends kept ks) ≡ table
    no_ends table ks l = let none : length ks - kept ≡ 0 = omega arith in ap (λ n. with_each_wanted hooks table (ends_of (take n ks))) none

    one_end : (table : List HookKey) (k : BlockKind) (ks : List BlockKind) → kept ≤ length ks → with_each_wanted hooks table (left_ends kept (k ∷ ks)) ≡ with_each_wanted hooks (with_wanted hooks table (keys.End k)) (left_ends kept ks)
    one_end table k ks l =
        let more : length (k ∷ ks) - kept ≡ suc (length ks - kept) = omega arith in ap (λ n. with_each_wanted hooks table (ends_of (take n (k ∷ ks)))) more

    known_end : (table : List HookKey) (k : BlockKind) (ks : List BlockKind) → kept ≤ length ks → IsKnown hooks table (keys.End k) → with_each_wanted hooks table (left_ends kept (k ∷ ks)) ≡ with_each_wanted hooks table (left_ends kept ks)
    known_end table k ks l known = one_end table k ks l ∙ ap (λ t. with_each_wanted hooks t (left_ends kept ks)) (known_stays hooks table (keys.End k) known)

    abbrev IsTopBelow : List OpenBlock → Type 0
    IsTopBelow [] = Unit {0}
    IsTopBelow (b ∷ bs) = b.around < kept

    -- the ends of all blocks that it leaves are known
    all_known : (table : List HookKey) (ks : List BlockKind) (stack : List OpenBlock) → AreUnended hooks table ks stack → IsTopBelow stack → with_each_wanted hooks table (left_ends kept ks) ≡ table
    all_known table [] stack h below = no_ends table [] (omega arith)
    all_known table (k ∷ ks) stack (inl (bs, e, h)) below =
        let top : length ks < kept = subst IsTopBelow e below in no_ends table (k ∷ ks) (omega arith)
    all_known table (k ∷ ks) stack (inr (known, h)) below = go (leb kept (length ks)) refl (all_known table ks stack h below)
      where
        go : (b : Bool) → leb kept (length ks) ≡ b → with_each_wanted hooks table (left_ends kept ks) ≡ table → with_each_wanted hooks table (left_ends kept (k ∷ ks)) ≡ table
        go true e rest = known_end table k ks (leb-true kept (length ks) e) known ∙ rest
        go false e rest = let l : length ks < kept = leb-false kept (length ks) e in no_ends table (k ∷ ks) (omega arith)

    -- one of them is not
    record LeavesOne (table : List HookKey) (ks : List BlockKind) (b : OpenBlock) (bs : List OpenBlock) : Type 0 where
      unended : AreUnended hooks (with_wanted hooks table (keys.End b.kind)) ks bs
      same : with_each_wanted hooks table (left_ends kept ks) ≡ with_each_wanted hooks (with_wanted hooks table (keys.End b.kind)) (left_ends kept ks)

    leaves_one : (table : List HookKey) (ks : List BlockKind) (b : OpenBlock) (bs : List OpenBlock) → AreUnended hooks table ks (b ∷ bs) → kept ≤ b.around → LeavesOne table ks b bs
    leaves_one table [] b bs e l = cc
    leaves_one table (k ∷ ks) b bs (inl (cs, e, h)) l =
        let is : b ≡ entry_of k (length ks) = cc in
        let rest : cs ≡ bs = cc in
        let at : b.around ≡ length ks = ap (λ (c : OpenBlock). c.around) is in
        let kind : k ≡ b.kind = sym (ap (λ (c : OpenBlock). c.kind) is) in
        let more = with_wanted hooks table (keys.End b.kind) in
        let known : IsKnown hooks more (keys.End k) = subst (λ j. IsKnown hooks more (keys.End j)) (sym kind) (knows_itself hooks table (keys.End b.kind)) in
        record {
          unended = inr (known, unended_more table (keys.End b.kind) ks bs (subst (AreUnended hooks table ks) rest h));
          same =
              one_end table k ks (omega arith)
              ∙ ap (λ j. with_each_wanted hooks (with_wanted hooks table (keys.End j)) (left_ends kept ks)) kind
              ∙ sym (known_end more k ks (omega arith) known);
        }
    leaves_one table (k ∷ ks) b bs (inr (known, h)) l =
        let more = with_wanted hooks table (keys.End b.kind) in
        let inside = top_below table ks b bs h in
        let again = leaves_one table ks b bs h l in
        let still = knows_more hooks table (keys.End k) (keys.End b.kind) known in
        record {
          unended = inr (still, again.unended);
          same = known_end table k ks (omega arith) known ∙ again.same ∙ sym (known_end more k ks (omega arith) still);
        }

    pub record Branches (table : List HookKey) (ks : List BlockKind) (stack : List OpenBlock) (table2 : List HookKey) (open2 : List OpenBlock) : Type 0 where
      pub told : table2 ≡ with_each_wanted hooks table (left_ends kept ks)
      pub unended : AreUnended hooks table2 ks open2

    pub branched : (table : List HookKey) (ks : List BlockKind) (stack : List OpenBlock) → AreUnended hooks table ks stack
        → Branches table ks stack (with_ends hooks kept stack table) (all_left kept stack)
    branched table ks [] h = record { told = sym (all_known table ks [] h tt); unended = h }
    branched table ks (b ∷ bs) h = go (leb kept b.around) refl (λ t k. branched t ks bs k)
      where
        go : (c : Bool) → leb kept b.around ≡ c
            → ((t : List HookKey) → AreUnended hooks t ks bs → Branches t ks bs (with_ends hooks kept bs t) (all_left kept bs))
            → Branches table ks (b ∷ bs) (cond c (with_ends hooks kept bs (with_wanted hooks table (keys.End b.kind))) table) (cond c (all_left kept bs) (b ∷ bs))
        go true e again =
            let one = leaves_one table ks b bs h (leb-true kept b.around e) in
            let rest = again (with_wanted hooks table (keys.End b.kind)) one.unended in
            record { told = rest.told ∙ sym one.same; unended = rest.unended }
        go false e again = record { told = sym (all_known table ks (b ∷ bs) h (leb-false kept b.around e)); unended = h }
