-- A made module links with the script of its trial.
use Rattle.std.proofs.Common.{◌≡◌, ◌≢◌, ◌∙◌, ℕ, suc, ◌+◌, ◌%◌, ◌^◌, ◌≤◌, [], ◌∷◌, length, pos, Some, None, Option, Bool, true, ◌&&◌, nat_lt, refl, ap, arith, slice_get, codes, All}
use Rattle.std.specs.Prelude.{nat_le}
use Rattle.std.specs.List.{range_with_len}
use Rattle.std.proofs.lemmas.Bool.Decides.{nat_tests}
use Rattle.std.proofs.lemmas.List.Elements.{All-from_recursion}
use Rattle.std.proofs.lemmas.List.FromFn.{length-range_with_len}
use Rattle.wasm_num.specs.declared.ValType.TheVariants.{I32}
use Rattle.wasm_sem.specs.Types.{Import, Module}
use Rattle.module_ast.specs.Structure.{funcs_of}
use Rattle.wasm_sem.specs.declared.HostAnswer.{HostAnswer}
use Rattle.wasm_sem.specs.Execution.{IsFree, IsScriptInRange, IsWriteInRange, Links, Refusal, call_refusal, callees_of, exported_func, first_refusal, bad_args, fit_all, fit_elements, opening_globals, fit_types, func_at, hook_module, refusal_unless, segment_range, table_cap, run_of}
use Rattle.wasm_sem.proofs.SoundCallees.{are_callees, callable}
use Rattle.module_gen.specs.Made.{exports, functions, made, note_import, type_indices}
use Rattle.module_gen.proofs.MadeLists.{index_last, unary_type}
use Rattle.module_gen.proofs.MadeModules.{made_fits, made_valid}
use Rattle.wasabi_app.specs.Modes.Trial.{trial_script}

-- a run goes on alike, whatever the number of steps that may be made
pub same_steps : (m : Module) (number a b n : ℕ) → run_of m (trial_script number a) n ≡ run_of m (trial_script number b) n
same_steps m number a b n = refl

-- the last function takes and leaves an i32
module _ (number : ℕ) where
  last_func : slice_get (funcs_of (made number)) (functions number + 1) ≡ Some 1
  last_func = let e : functions number + 1 ≡ suc (functions number) = omega arith in ap (slice_get (0 ∷ type_indices (functions number))) e ∙ index_last (functions number)

  called : call_refusal 0 (pos (number % 2 ^ 32) ∷ []) (func_at (callees_of (made number)) (exported_func (codes "main") (exports (functions number)))) ≡ None
  called =
      let fits : nat_lt (number % 2 ^ 32) (2 ^ 32) ≡ true = grind (arith, nat_tests) in
      let main = callable (made number).types (funcs_of (made number)) (callees_of (made number)) (functions number + 1) 1 (unary_type I32)
      (are_callees (made number) (made_valid number) (made_fits number).counts) last_func refl in
      ap (call_refusal 0 (pos (number % 2 ^ 32) ∷ [])) main.at
      ∙ ap (λ ty. refusal_unless (fit_types ty.params (pos (number % 2 ^ 32) ∷ [])) (bad_args 0)) main.type
      ∙ ap (λ b. refusal_unless (b && true) (bad_args 0)) fits

  slots_fit : fit_elements (opening_globals (made number) (trial_script number 1)) (functions number) (made number).elements ≡ true
  slots_fit =
      let within : nat_le (0 + length (range_with_len 1 (functions number))) (functions number) ≡ true =
      grind (arith, nat_tests, length-range_with_len 1 (functions number)) in
      ap (λ b. b && true) within

  few_slots : nat_le (functions number) 1000000 ≡ true
  few_slots = grind (arith, nat_tests)

  -- so it links
  pub trial_links : (steps : ℕ) → Links (made number) (trial_script number steps)
  trial_links steps =
      ap (λ r. first_refusal (first_refusal r None) (rest_with (fit_all (made number) (trial_script number steps)) (nat_le (functions number) 1000000))) called
      ∙ ap (rest_with (fit_all (made number) (trial_script number steps))) few_slots
      ∙ ap (λ b. rest_with b true) (ap (λ b. b && true) slots_fit)
    where
      rest_with : (fit few : Bool) → Option Refusal
      rest_with fit few = first_refusal (refusal_unless few (table_cap (functions number))) (refusal_unless fit segment_range)

  pub made_free : IsFree (made number)
  made_free = All-from_recursion (λ (i : Import). i.module.bytes ≢ hook_module) (note_import ∷ []) ((λ e. let n = ap length e in omega (arith, n)), tt)

pub trial_in_range : (number steps : ℕ) → 1 ≤ steps → steps ≤ 1000000000000 → IsScriptInRange (trial_script number steps)
trial_in_range number steps some few = record {
  pages = omega arith;
  some_depth = omega arith;
  depth = omega arith;
  some_steps = some;
  steps = few;
  writes = All-from_recursion (λ (a : HostAnswer). All IsWriteInRange a.writes) [] tt;
}
