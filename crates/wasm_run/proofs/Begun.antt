-- How the only frame lies.
use Rattle.std.proofs.Common.{◌≡◌, ℕ, ◌+◌, ◌-◌, ◌≤◌, ℤ, List, [], ◌∷◌, ◌++◌, length, None, Result, Ok, Err, sym, ap, subst, ◌∙◌, arith, append_assoc, length-append}
use Rattle.std.specs.Prelude.{reverse, OnOk}
use Rattle.std.proofs.lemmas.List.{reverse-append}
use Rattle.wasm_sem.specs.Types.{ValType, Value, Body, FuncType}
use Rattle.module_ast.specs.Validation.{push, declared_locals}
use Rattle.wasm_sem.specs.Execution.{values_of, zeros}
use Rattle.wasm_run.specs.Entering.{StandsAlone}
use Rattle.run_stack.specs.Flat.{Spot, Base, Flat, PutsFrame}
use Rattle.wasm_run.proofs.Answered.{values_count}
use Rattle.run_stack.proofs.Pushed.{push_length, push_reversed}
use Rattle.wasm_run.proofs.Rooms.{zeros_count}

-- the arguments are there
pub numbers_pushed : (ts : List ValType) (zs : List ℤ) (xs : List Value) → length ts ≤ length (push (values_of ts zs) xs)
numbers_pushed ts zs xs = omega (arith, push_length (values_of ts zs) xs, values_count ts zs)

module _ (ty : FuncType) (body : Body) (numbers : List ℤ) (high nesting : ℕ) (g u : Flat) (values : g.values ≡ push (values_of ty.params numbers) []) (spots : g.spots ≡ []) (bases : g.bases ≡ [])
    (enters : PutsFrame (length ty.params) (zeros (declared_locals body.groups)) body.code (length ty.results) high nesting g u) where
  abbrev args : List Value
  args = values_of ty.params numbers

  abbrev zs : List Value
  zs = zeros (declared_locals body.groups)

  count : length g.values ≡ length args
  count = ap length values ∙ push_length args [] ∙ omega arith

  args_count : length args ≡ length ty.params
  args_count = values_count ty.params numbers

  values_are : u.values ≡ reverse (args ++ zs) ++ []
  values_are =
      enters.values ∙ ap (λ vs. reverse zs ++ vs) (values ∙ push_reversed args [])
      ∙ sym (append_assoc (reverse zs) (reverse args) []) ∙ ap (λ vs. vs ++ []) (sym (reverse-append args zs))

  stands_alone : StandsAlone ty body numbers high nesting u
  stands_alone =
      let high_is : length zs + length g.values ≡ 0 + (length (args ++ zs) + 0) = omega (arith, count, length-append args zs) in
      let low_is : length g.values - length ty.params ≡ 0 = omega (arith, count, args_count) in
      record {
        lies = λ func. record {
          values = values_are;
          spots = enters.spots ∙ ap (λ n. record { rest = body.code; again = None; height = n; arity = length ty.results } ∷ g.spots) high_is
              ∙ ap (λ (ss : List Spot). record { rest = body.code; again = None; height = 0 + (length (args ++ zs) + 0); arity = length ty.results } ∷ ss) spots;
          bases = enters.bases ∙ ap (λ n. record { values = n; labels = length g.spots } ∷ g.bases) low_is
              ∙ ap (λ (ss : List Spot). record { values = 0; labels = length ss } ∷ g.bases) spots
              ∙ ap (λ (bs : List Base). record { values = 0; labels = 0 } ∷ bs) bases;
        };
        values_fit = omega (arith, enters.for_values, count, args_count, zeros_count (declared_locals body.groups), length-append ty.params (declared_locals body.groups));
        labels_fit = omega (arith, enters.for_spots, ap length spots);
      }

pub alone_on : {E : Type 0} (r : Result (Unit {0}) E) (ty : FuncType) (body : Body) (numbers : List ℤ) (params results : List ValType) (high nesting : ℕ) (g u : Flat) → params ≡ ty.params → results ≡ ty.results
    → g.values ≡ push (values_of params numbers) [] → g.spots ≡ [] → g.bases ≡ []
    → OnOk r (PutsFrame (length params) (zeros (declared_locals body.groups)) body.code (length results) high nesting g u) → OnOk r (StandsAlone ty body numbers high nesting u)
alone_on (Ok x) ty body numbers params results high nesting g u p q values spots bases enters =
    stands_alone ty body numbers high nesting g u (values ∙ ap (λ ts. push (values_of ts numbers) []) p) spots bases
    (subst (λ ts. PutsFrame (length ty.params) (zeros (declared_locals body.groups)) body.code (length ts) high nesting g u) q
    (subst (λ ts. PutsFrame (length ts) (zeros (declared_locals body.groups)) body.code (length results) high nesting g u) p enters))
alone_on (Err e) ty body numbers params results high nesting g u p q values spots bases enters = tt
