-- How a frame lies when its function has been entered.
use Rattle.std.proofs.Common.{◌≡◌, ℕ, suc, ◌+◌, ◌-◌, ◌<◌, ◌≤◌, List, [], ◌∷◌, ◌++◌, length, Some, None, refl, sym, ap, subst, ◌∙◌, arith, append_assoc, length-append}
use Rattle.std.specs.Prelude.{reverse, Bool, cond}
use Rattle.std.proofs.lemmas.Bool.{lt-ltb, le-ltb}
use Rattle.wasm_sem.specs.Types.{Body, Value, ValType, FuncType}
use Rattle.module_ast.specs.Validation.{declared_locals}
use Rattle.wasm_sem.specs.declared.Trap.TheVariants.{Depth}
use Rattle.wasm_sem.specs.Execution.{Instance, zeros, Frame, Env, configuration, Next, reduces, traps, pop_values, with_ops, new_frame}
use Rattle.wasm_run.specs.Entering.{IsCalling, entered_next, HasEntered}
use Rattle.std.proofs.lemmas.List.{reverse-append, length-reverse}
use Rattle.module_ast.specs.Structure.{Tree}
use Rattle.run_stack.specs.Flat.{Flat, PutsFrame}
use Rattle.run_stack.specs.Kept.{under, all_values, all_spots, all_bases, Lies}
use Rattle.run_stack.proofs.Popped.{Parts, parts}

module _ (s u : Flat) (fr : Frame) (below : List Frame) (f : ℕ) (ty : FuncType) (locals : List ValType) (code : Tree) (args rest : List Value) (height nesting : ℕ) (lies : Lies s (fr ∷ below))
    (popped : pop_values (length ty.params) fr.top.ops [] ≡ Some (args, rest)) (enters : PutsFrame (length ty.params) (zeros locals) code (length ty.results) height nesting s u) where
  abbrev caller : Frame
  caller = with_ops fr rest

  abbrev zs : List Value
  zs = zeros locals

  are : Parts (length ty.params) fr.top.ops [] args rest
  are = parts (length ty.params) fr.top.ops [] args rest popped

  pub count : length args ≡ length ty.params
  count = are.count ∙ omega arith

  -- arguments above the caller's values
  values_are : s.values ≡ reverse args ++ all_values (caller ∷ below)
  values_are = lies.values ∙ ap (λ o. o ++ under fr below) are.whole ∙ append_assoc (reverse args) rest (under fr below)

  pub size : length s.values ≡ length args + length (all_values (caller ∷ below))
  size = ap length values_are ∙ length-append (reverse args) (all_values (caller ∷ below)) ∙ ap (λ n. n + length (all_values (caller ∷ below))) (length-reverse args)

  pub enters_lies : Lies u (new_frame f ty locals code args ∷ caller ∷ below)
  enters_lies =
      let low = length (args ++ zs) + length (all_values (caller ∷ below)) in
      let high : length zs + length s.values ≡ 0 + low = omega (arith, size, length-append args zs) in
      let base : length s.values - length ty.params ≡ length (all_values (caller ∷ below)) = omega (arith, size, count) in
      record {
        values = enters.values ∙ ap (λ vs. reverse zs ++ vs) values_are ∙ sym (append_assoc (reverse zs) (reverse args) (all_values (caller ∷ below)))
            ∙ ap (λ vs. vs ++ all_values (caller ∷ below)) (sym (reverse-append args zs));
        spots = enters.spots ∙ ap (λ n. record { rest = code; again = None; height = n; arity = length ty.results } ∷ s.spots) high
            ∙ ap (λ ss. record { rest = code; again = None; height = 0 + low; arity = length ty.results } ∷ ss) lies.spots;
        bases = enters.bases ∙ ap (λ n. record { values = n; labels = length s.spots } ∷ s.bases) base
            ∙ ap (λ ss. record { values = length (all_values (caller ∷ below)); labels = length ss } ∷ s.bases) lies.spots
            ∙ ap (λ bs. record { values = length (all_values (caller ∷ below)); labels = length (all_spots (caller ∷ below)) } ∷ bs) lies.bases;
      }

-- ---- the depth

abbrev within_depth : Instance → Env → Frame → List Frame → Frame → Bool → Next
within_depth inst e caller below new b = cond b (reduces (configuration e (new ∷ caller ∷ below))) (traps Depth)

frames_are : (s : Flat) (fr : Frame) (below : List Frame) (n : ℕ) → Lies s (fr ∷ below) → n ≡ length s.bases → n ≡ length (fr ∷ below)
frames_are s fr below n lies h = h ∙ ap length lies.bases ∙ ap suc (count below)
  where
    count : (fs : List Frame) → length (all_bases fs) ≡ length fs
    count [] = refl
    count (f ∷ fs) = ap suc (count fs)

module _ (s : Flat) (inst : Instance) (e : Env) (fr : Frame) (below : List Frame) (f : ℕ) (ty : FuncType) (body : Body) (args rest : List Value) (calling : IsCalling s inst fr below ty args rest) (n depth : ℕ) (frames : n ≡ length s.bases) (limit : inst.depth ≡ depth) where
  abbrev new : Frame
  new = new_frame f ty (declared_locals body.groups) body.code args

  pub too_deep : depth ≤ n → HasEntered e (Some Depth) (entered_next inst e fr below f ty body args rest) s
  too_deep h =
      let k : inst.depth ≤ length (with_ops fr rest ∷ below) = omega (arith, h, limit, frames_are s fr below n calling.lies frames) in
      subst (λ b. HasEntered e (Some Depth) (within_depth inst e (with_ops fr rest) below new b) s) (sym (le-ltb (length (with_ops fr rest ∷ below)) inst.depth k)) refl

  pub goes_in : n < depth → (u : Flat) (height nesting : ℕ) → PutsFrame (length ty.params) (zeros (declared_locals body.groups)) body.code (length ty.results) height nesting s u → HasEntered e None (entered_next inst e fr below f ty body args rest) u
  goes_in h u height nesting enters =
      let k : length (with_ops fr rest ∷ below) < inst.depth = omega (arith, h, limit, frames_are s fr below n calling.lies frames) in
      subst (λ b. HasEntered e None (within_depth inst e (with_ops fr rest) below new b) u) (sym (lt-ltb (length (with_ops fr rest ∷ below)) inst.depth k))
      (refl, enters_lies s u fr below f ty (declared_locals body.groups) body.code args rest height nesting calling.lies calling.popped enters)
