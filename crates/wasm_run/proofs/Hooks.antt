-- The call of a hook that a step tells.
use Rattle.std.proofs.Common.{◌≡◌, ℕ, ◌+◌, ◌≤◌, zero, suc, List, [], ◌∷◌, ◌++◌, length, drop, Option, Some, None, Result, Ok, Err, Bool, true, false, ◌||◌, refl, sym, ap, ap₂, ◌∙◌, arith, slice_get, length-append}
use Rattle.std.specs.Borrow.{Bor}
use Rattle.std.specs.Prelude.{reverse, OnErr}
use Rattle.std.proofs.lemmas.List.{length-reverse}
use Rattle.std.proofs.lemmas.Bool.{or_right, false≢true}
use Rattle.std.proofs.lemmas.Option.{none-some, same_Some}
use Rattle.wasm_sem.specs.Types.{Value, FuncType, Module}
use Rattle.module_ast.specs.Structure.{Tree, plain, Plain, call, call_indirect}
use Rattle.module_ast.specs.Validation.{push}
use Rattle.run_store.specs.Held.{Held}
use Rattle.wasm_sem.specs.declared.HookCall.{HookCall}
use Rattle.wasm_sem.specs.declared.Script.{Script}
use Rattle.wasm_sem.specs.Execution.{hook_in, TraceItem, event, entry, host_call, hook_call, shown_items, Callee, host, hook, own, callee_type, callees_of, is_hook_function, some_hook, Instance, instance, Frame, Env, Configuration, configuration, pop_values, run_of, told_invoke, told_code, told_items, items_by, items}
use Rattle.wasm_sem.proofs.AllChosen.{HaveGroups, step_has}
use Rattle.wasm_sem.proofs.Runs.{pop_push}
use Rattle.run_stack.specs.Below.{IsBelow}
use Rattle.run_stack.specs.Calls.{IsNoCall, NextIsNoCall}
use Rattle.run_stack.specs.Flat.{Flat}
use Rattle.run_stack.specs.Kept.{under}
use Rattle.wasm_run.specs.Moves.{env_beside}
use Rattle.run_stack.specs.Slots.{index_count, with_index}
use Rattle.wasm_run.specs.Reaching.{Reaches}
use Rattle.run_store.specs.Resolved.{callee_for}
use Rattle.run_store.specs.declared.functions.Function.{Function}
use Rattle.run_store.specs.declared.functions.Function.TheVariants as functions
use Rattle.wasm_run.specs.Running.{Innermost, IsRunning}
use Rattle.run_stack.proofs.Popped.{parts, pop_over}
use Rattle.wasm_run.proofs.Invoking.{index_dropped, index_there, Invoker, invoker}

-- ---- modules without hooks

-- events, entries and host calls are no calls of hooks
none_in : (is : List TraceItem) → HaveGroups is → hook_in is ≡ None
none_in [] h = refl
none_in (event e ∷ is) h = none_in is h.1
none_in (entry c ∷ is) h = none_in is h
none_in (host_call f vs rs ws ∷ is) h = none_in is h
none_in (hook_call c ∷ is) h = absurd h

-- so what is told of a step is what a module with hooks tells, where that is none
pub hook_told : (inst : Instance) (c : Configuration) (h : Option HookCall) → hook_in (told_items inst c) ≡ h → (inst.hooked ≡ false → h ≡ None) → h ≡ hook_in (items inst c)
hook_told inst c h told bare = go inst.hooked refl
  where
    go : (b : Bool) → inst.hooked ≡ b → h ≡ hook_in (items_by b inst c)
    go true e = sym told
    go false e = bare e ∙ sym (none_in (shown_items inst c) (step_has inst c))

-- a function that is a hook
pub hook_there : (cs : List Callee) (f : ℕ) (c : Callee) → slice_get cs f ≡ Some c → is_hook_function c ≡ true → some_hook cs ≡ true
hook_there [] f c at h = absurd (none-some c at)
hook_there (d ∷ ds) zero c at h = ap (λ b. b || some_hook ds) (ap is_hook_function (same_Some d c at) ∙ h)
hook_there (d ∷ ds) (suc f) c at h = or_right (is_hook_function d) (some_hook ds) (hook_there ds f c at h)

-- ---- a call

-- what is told of a call of a function that is no hook
pub no_hook : (inst : Instance) (e : Env) (f : ℕ) (c : Callee) (args : List Value) → is_hook_function c ≡ false → hook_in (told_invoke inst e f c args) ≡ None
no_hook inst e f (own ty locals code) args h = refl
no_hook inst e f (host ty) args h = refl
no_hook inst e f (hook ty) args h = absurd cc

no_call_plain : (inst : Instance) (e : Env) (i : Plain) (k : Tree) (o : List Value) → IsNoCall i → told_code inst e (plain i k) o ≡ []
no_call_plain inst e (call f) k o h = absurd h
no_call_plain inst e (call_indirect x) k o h = absurd h
no_call_plain inst e i k o h = refl

no_call : (inst : Instance) (e : Env) (k : Tree) (o : List Value) → NextIsNoCall k → told_code inst e k o ≡ []
no_call inst e (plain i k) o h = no_call_plain inst e i k o h
no_call inst e k o h = refl

-- where no call comes next
pub nothing_told : (inst : Instance) (c : Configuration) → Innermost (λ (fr : Frame). NextIsNoCall fr.top.rest) c → told_items inst c ≡ []
nothing_told inst (configuration e []) h = absurd h
nothing_told inst (configuration e (fr ∷ below)) h = no_call inst e fr.top.rest fr.top.ops h

-- nothing told is no call of a hook
pub none_told : (inst : Instance) (c : Configuration) → told_items inst c ≡ [] → None ≡ hook_in (items inst c)
none_told inst c h = hook_told inst c None (ap hook_in h) (λ _. refl)

module _ (m : Module) (s : Script) (made : ℕ) (f : Flat) (memory : Held) (globals : List Value) (running : IsRunning m s made f memory globals) (slot : Option ℕ) (func : ℕ) (k : Tree) where
  abbrev inst : Instance
  inst = instance m s

  module _ (called : Callee) (calls : Reaches inst (run_of m s made) slot func k called) where
    abbrev x : Invoker m s made f memory globals running.linked slot func k called
    x = invoker m s made f memory globals running.linked slot func k called running.keeps calls

    told_call_is : told_items inst (run_of m s made) ≡ told_invoke inst x.env func called x.args
    told_call_is = ap (told_items inst) x.at ∙ x.told_is

    -- of another function
    pub other_called : is_hook_function called ≡ false → None ≡ hook_in (items inst (run_of m s made))
    other_called h = hook_told inst (run_of m s made) None (ap hook_in told_call_is ∙ no_hook inst x.env func called x.args h) (λ _. refl)

    -- ---- the arguments

    operands_are : f.values ≡ with_index slot x.ops ++ under x.frame x.below
    operands_are = x.lies.values ∙ ap (λ o. o ++ under x.frame x.below) x.ops_are

    abbrev count : ℕ
    count = length (callee_type called).params

    -- are there
    pub words_there : (n : ℕ) → n ≡ index_count slot → n + count ≤ length f.values
    words_there n same =
        let are = parts count x.ops [] x.args x.rest x.popped in
        let counted = are.count in
        omega (
          arith,
          same,
          counted,
          ap length operands_are,
          index_there slot x.ops (under x.frame x.below),
          length-append x.ops (under x.frame x.below),
          ap length are.whole,
          length-append (reverse x.args) x.rest,
          length-reverse x.args,
        )

    args_are : (n : ℕ) (vs : List Value) → n ≡ index_count slot → IsBelow n count vs f.values → x.args ≡ vs
    args_are n vs same h =
        let left = drop (n + count) f.values in
        let taken : drop n f.values ≡ x.ops ++ under x.frame x.below = ap (λ n. drop n f.values) same ∙ ap (drop (index_count slot)) operands_are ∙ index_dropped slot x.ops (under x.frame x.below) in
        let popped : Some (vs, left) ≡ Some (x.args, x.rest ++ under x.frame x.below) =
        sym (pop_push vs left) ∙ ap (λ n. pop_values n (push vs left) []) h.size ∙ ap (λ o. pop_values count o []) (sym h.are ∙ taken)
        ∙ pop_over count x.ops [] (under x.frame x.below) x.args x.rest x.popped in
        sym (ap (λ (p : List Value × List Value). p.0) (same_Some (vs, left) (x.args, x.rest ++ under x.frame x.below) popped))

    -- and are what the call passes
    pub told_with : (n : ℕ) (vs : List Value) → n ≡ index_count slot → IsBelow n count vs f.values → told_items inst (run_of m s made) ≡ told_invoke inst (env_beside (run_of m s made)) func called vs
    told_with n vs same h = told_call_is ∙ ap₂ (λ (e : Env) (vs : List Value). told_invoke inst e func called vs) (sym (ap env_beside x.at)) (args_are n vs same h)

    pub callee_is : slice_get (callees_of m) func ≡ Some called
    callee_is = x.callee

  -- the words of a hook
  pub words_are : (ty : FuncType) → Reaches inst (run_of m s made) slot func k (hook ty) → (n : ℕ) (vs : List Value) → n ≡ index_count slot → IsBelow n (length ty.params) vs f.values
      → Some (record { «import» = func; args = vs }) ≡ hook_in (items inst (run_of m s made))
  words_are ty calls n vs same h =
      hook_told inst (run_of m s made) (Some (record { «import» = func; args = vs })) (ap hook_in (told_with (hook ty) calls n vs same h))
      (λ bare. absurd (false≢true (sym bare ∙ hook_there (callees_of m) func (hook ty) (callee_is (hook ty) calls) refl)))

-- what holds wherever
pub on_err : {A E : Type 0} {P : Type 0} (r : Result A E) → P → OnErr r P
on_err (Ok x) h = tt
on_err (Err e) h = h

-- a function that is no hook
pub other_function : (f : Function) → ((ty : Bor FuncType) → f ≡ functions.Hook ty → ⊥) → is_hook_function (callee_for f) ≡ false
other_function (functions.Host ty) h = refl
other_function (functions.Hook ty) h = absurd (h ty refl)
other_function (functions.Own ty body size) h = refl
