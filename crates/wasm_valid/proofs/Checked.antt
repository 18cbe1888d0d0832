-- Bodies that have been checked, one after another.
use Rattle.std.proofs.Common.{◌≡◌, ℕ, zero, suc, ◌+◌, ◌<◌, ◌≤◌, ◌⊎◌, inl, inr, List, [], ◌∷◌, ◌++◌, length, slice_get, refl, sym, ap, ◌∙◌, subst, length-append, arith}
use Rattle.std.specs.Prelude.{Some}
use Rattle.std.proofs.lemmas.Bool.{cases_lt}
use Rattle.std.proofs.lemmas.Option.{slice_get_within}
use Rattle.module_ast.specs.declared.module.Module.{Module}
use Rattle.module_ast.specs.Validation.{IsWhole, KeepsRules, TypesBody, IsFirstInvalid, HasBodyMarks}
use Rattle.module_ast.specs.Structure.{imported_funcs}
use Rattle.code_valid.specs.declared.marks.Marks.{Marks}
use Rattle.wasm_valid.specs.Validated.{MarkFirst, IsValidated}

-- the first bodies are typed, and these are their marks
pub record AreChecked (m : Module) (done : ℕ) (marks : List Marks) : Type 0 where
  pub count : length marks ≡ done
  pub typed : (k : ℕ) → k < done → TypesBody m k
  pub marks_of : MarkFirst m marks

-- what was pushed stands last
slice_get-push : {A : Type 0} (xs : List A) (y : A) (k : ℕ) (x : A) → slice_get (xs ++ y ∷ []) k ≡ Some x → (slice_get xs k ≡ Some x) ⊎ ((k ≡ length xs) × (y ≡ x))
slice_get-push [] y zero x e = inr (refl, cc)
slice_get-push [] y (suc k) x e = absurd (cc)
slice_get-push (z ∷ xs) y zero x e = inl e
slice_get-push (z ∷ xs) y (suc k) x e =
    elim (slice_get-push xs y k x e) [ inl in_front ↦ inl in_front | inr (at, same) ↦ inr (ap suc at, same) ]

pub checked_more : (m : Module) (done : ℕ) (marks : List Marks) (found : Marks) → AreChecked m done marks → TypesBody m done → HasBodyMarks m done found.types found.height → AreChecked m (done + 1) (marks ++ found ∷ [])
checked_more m done marks found before typed mark = record {
  count = omega (arith, length-append marks (found ∷ []), before.count);
  typed = λ k h. elim (cases_lt k done) [
    | inl lt ↦ before.typed k lt
    | inr ge ↦ (let e : done ≡ k = omega arith in subst (TypesBody m) e typed)
  ];
  marks_of = λ k x e. elim (slice_get-push marks found k x e) [
    | inl in_front ↦ before.marks_of k x in_front
    | inr (at, same) ↦ (let place : done ≡ k = sym before.count ∙ sym at in
        subst (λ (y : Marks). HasBodyMarks m k y.types y.height) same (subst (λ (n : ℕ). HasBodyMarks m n found.types found.height) place mark))
  ];
}

-- there is no body behind the last one
typed_behind : (m : Module) (k : ℕ) → length m.bodies ≤ k → TypesBody m k
typed_behind m k h ty t b at_func at_type at_body = absurd (omega (arith, slice_get_within m.bodies k b at_body))

pub checked_all : (m : Module) (done : ℕ) (marks : List Marks) → IsWhole m → KeepsRules m → length m.bodies ≤ done → done ≤ length m.bodies → AreChecked m done marks → IsValidated m marks
checked_all m done marks whole rules low high h = record {
  whole = whole;
  valid = record {
    rules = rules;
    bodies = λ k. elim (cases_lt k done) [ inl lt ↦ h.typed k lt | inr ge ↦ typed_behind m k (omega arith) ];
  };
  count = omega (arith, h.count);
  marks_of = h.marks_of;
}

pub first_invalid : (m : Module) (done func : ℕ) (marks : List Marks) → KeepsRules m → AreChecked m done marks → done < length m.bodies → func ≡ length (imported_funcs m.imports) + done → ¬ TypesBody m done → IsFirstInvalid m func
first_invalid m done func marks rules h lt e untyped = (done, rules, lt, e, untyped, h.typed)
