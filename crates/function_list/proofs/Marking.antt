-- How flags change, one piece or one name after the other.
use Rattle.std.proofs.Common.{◌≡◌, ◌∙◌, ℕ, ◌+◌, ◌<◌, ◌≤◌, ◌==◌, min, max, List, length, get_or, map, take, drop, append-nil, drop-cons, add-one, [], ◌∷◌, ◌++◌, ap₂, Bool, true, false, cond, ◌&&◌, ◌||◌, not, nat_le, nat_lt, refl, sym, ap, subst, arith, Option, is_none}
use Rattle.std.specs.List.{list_any, range_with_len}
use Rattle.std.proofs.lemmas.Bool.Decides.{nat_tests}
use Rattle.std.proofs.lemmas.List.{take_all}
use Rattle.std.proofs.Math.ListN.{drop_of_length-le}
use Rattle.std.proofs.lemmas.List.FromFn.{fill_by_all, get_or-map-range_with_len, length-map-range_with_len, map-range_with_len_more}
use Rattle.module_ast.specs.declared.module.Module.{Module}
use Rattle.module_ast.specs.Structure.{funcs_of}
use Rattle.name_map.specs.declared.Names.{Names}
use Rattle.function_list.specs.Choices.{chosen, has_body, is_chosen, is_listed, listed}
use Rattle.function_list.specs.Marks.{Marks}

not_both : {A : Type 0} (h : Bool) (x y : A) → y ≡ cond (h && false) x y
not_both true x y = refl
not_both false x y = refl

-- flags that are set twice
set_twice : {A : Type 0} (h s t : Bool) (x y z w : A) → z ≡ cond (h && s) x y → w ≡ cond (h && t) x z → w ≡ cond (h && (s || t)) x y
set_twice true true true x y z w a b = b
set_twice true true false x y z w a b = b ∙ a
set_twice true false true x y z w a b = b
set_twice true false false x y z w a b = b ∙ a
set_twice false s t x y z w a b = b ∙ a

module _ (m : Module) (flag : Bool) where
  -- no function with a body passes the test
  pub marks_none : (test : ℕ → Bool) (flags : List Bool) → ((f : ℕ) → test f ≡ false) → Marks m test flag flags flags
  marks_none test flags none = record {
    long = refl;
    flags = λ f within. not_both (has_body m f) flag (get_or flags f false) ∙ ap (λ b. cond (has_body m f && b) flag (get_or flags f false)) (sym (none f));
  }

  pub marks_alike : (s t : ℕ → Bool) (old new : List Bool) → ((f : ℕ) → has_body m f ≡ true → s f ≡ t f) → Marks m s flag old new → Marks m t flag old new
  marks_alike s t old new same marks = record {
    long = marks.long;
    flags = λ f within. marks.flags f within ∙ by f (has_body m f) refl;
  }
    where
      by : (f : ℕ) (h : Bool) → has_body m f ≡ h → cond (h && s f) flag (get_or old f false) ≡ cond (h && t f) flag (get_or old f false)
      by f true is = ap (λ b. cond b flag (get_or old f false)) (same f is)
      by f false is = refl

  pub marks_then : (s t : ℕ → Bool) (old mid new : List Bool) → Marks m s flag old mid → Marks m t flag mid new → Marks m (λ f. s f || t f) flag old new
  marks_then s t old mid new first second = record {
    long = second.long ∙ first.long;
    flags = λ f within.
        set_twice (has_body m f) (s f) (t f) flag (get_or old f false) (get_or mid f false) (get_or new f false) (first.flags f within)
        (second.flags f (subst (λ n. f < n) (sym first.long) within));
  }

  -- where a loop stands that marks what passes `all`: what passes `left` is still to be marked
  pub record Marking (all left : ℕ → Bool) (old now : List Bool) : Type 0 where
    pub done : ℕ → Bool
    pub marks : Marks m done flag old now
    pub splits : (f : ℕ) → (done f || left f) ≡ all f

  pub begins : (all : ℕ → Bool) (flags : List Bool) → Marking all all flags flags
  begins all flags = record { done = λ f. false; marks = marks_none (λ f. false) flags (λ f. refl); splits = λ f. refl }

  or_moved : (a b c : Bool) → ((a || b) || c) ≡ (a || (b || c))
  or_moved true b c = refl
  or_moved false b c = refl

  or_none : (a : Bool) → a ≡ (a || false)
  or_none true = refl
  or_none false = refl

  pub goes_on : (all left here later : ℕ → Bool) (old now next : List Bool) → Marking all left old now → Marks m here flag now next
      → ((f : ℕ) → left f ≡ (here f || later f)) → Marking all later old next
  goes_on all left here later old now next i marks splits = record {
    done = λ f. i.done f || here f;
    marks = marks_then i.done here old now next i.marks marks;
    splits = λ f. or_moved (i.done f) (here f) (later f) ∙ ap (λ b. i.done f || b) (sym (splits f)) ∙ i.splits f;
  }

  pub is_done : (all left : ℕ → Bool) (old now : List Bool) → Marking all left old now → ((f : ℕ) → left f ≡ false) → Marks m all flag old now
  is_done all left old now i none =
      marks_alike i.done all old now (λ f h. or_none (i.done f) ∙ ap (λ b. i.done f || b) (sym (none f)) ∙ i.splits f) i.marks

  -- the next one of a list of what may mean a function
  pub next_one : {X : Type 0} (test : ℕ → X → Bool) (xs : List X) (k : ℕ) (x : X) (all : ℕ → Bool) (old now next : List Bool) → k < length xs
      → x ≡ get_or xs k x → Marking all (λ f. list_any (test f) (drop k xs)) old now → Marks m (λ f. test f x) flag now next
      → Marking all (λ f. list_any (test f) (drop (k + 1) xs)) old next
  next_one test xs k x all old now next within is i marks =
      goes_on all (λ f. list_any (test f) (drop k xs)) (λ f. test f x) (λ f. list_any (test f) (drop (k + 1) xs)) old now next i marks
      (λ f. ap (list_any (test f)) here)
    where
      here : drop k xs ≡ x ∷ drop (k + 1) xs
      here = drop-cons xs k x within ∙ ap₂ (λ y n. y ∷ drop n xs) (sym is) (sym (add-one k))

-- ---- a range of indices

module _ (m : Module) (flag : Bool) (first : ℕ) where
  pub one_more : (func : ℕ) (old now next : List Bool) → first ≤ func → Marks m (λ f. nat_le first f && nat_lt f func) flag old now
      → Marks m (λ f. func == f) flag now next → Marks m (λ f. nat_le first f && nat_lt f (func + 1)) flag old next
  one_more func old now next least before here =
      marks_alike m flag (λ f. (nat_le first f && nat_lt f func) || (func == f)) (λ f. nat_le first f && nat_lt f (func + 1)) old next
      (λ f h. grind (arith, nat_tests)) (marks_then m flag _ _ old now next before here)

  pub all_of : (last func end : ℕ) (old now : List Bool) → end ≡ min (last + 1) (length (funcs_of m)) → end ≤ func → first ≤ func → func ≤ max first end
      → Marks m (λ f. nat_le first f && nat_lt f func) flag old now → Marks m (λ f. nat_le first f && nat_le f last) flag old now
  all_of last func end old now is past least most marks =
      marks_alike m flag (λ f. nat_le first f && nat_lt f func) (λ f. nat_le first f && nat_le f last) old now same marks
    where
      same : (f : ℕ) → has_body m f ≡ true → (nat_le first f && nat_lt f func) ≡ (nat_le first f && nat_le f last)
      same f h = grind (arith, nat_tests)

-- ---- all flags

flag_of : (h none f e a b c : Bool) → a ≡ (h && none) → b ≡ cond (h && f) true a → c ≡ cond (h && e) false b → c ≡ (h && ((none || f) && not e))
flag_of true true true true a b c x y z = z
flag_of true true true false a b c x y z = z ∙ y
flag_of true true false true a b c x y z = z
flag_of true true false false a b c x y z = z ∙ y ∙ x
flag_of true false true true a b c x y z = z
flag_of true false true false a b c x y z = z ∙ y
flag_of true false false true a b c x y z = z
flag_of true false false false a b c x y z = z ∙ y ∙ x
flag_of false none f e a b c x y z = z ∙ y ∙ x

pub body_more : (f : ℕ → Bool) (k : ℕ) (xs ys : List Bool) (b : Bool) → ys ≡ xs ++ b ∷ [] → xs ≡ map f (range_with_len 0 k) → b ≡ f k
    → ys ≡ map f (range_with_len 0 (k + 1))
body_more f k xs ys b more all is =
    more ∙ ap₂ (λ (l : List Bool) c. l ++ c ∷ []) all is ∙ sym (map-range_with_len_more f 0 k k (omega arith))

pub bodies_long : (m : Module) (every : Bool) (a : List Bool) → a ≡ map (λ f. has_body m f && every) (range_with_len 0 (length (funcs_of m)))
    → length a ≡ length (funcs_of m)
bodies_long m every a all = ap length all ∙ length-map-range_with_len (λ f. has_body m f && every) 0 (length (funcs_of m))

pub chosen_flags : (m : Module) (names : Names) (functions except : Option (List ℕ)) (every : Bool) (a b c : List Bool) → every ≡ is_none functions
    → a ≡ map (λ f. has_body m f && every) (range_with_len 0 (length (funcs_of m))) → Marks m (is_listed m names (listed functions)) true a b
    → Marks m (is_listed m names (listed except)) false b c → c ≡ chosen m names functions except
chosen_flags m names functions except every a b c is all first second =
    fill_by_all (is_chosen m names functions except) c (length (funcs_of m)) false (second.long ∙ first.long ∙ long) at
  where
    long : length a ≡ length (funcs_of m)
    long = bodies_long m every a all

    at : (f : ℕ) → f < length (funcs_of m) → get_or c f false ≡ is_chosen m names functions except f
    at f within =
        let start : get_or a f false ≡ (has_body m f && is_none functions) =
        ap (λ l. get_or l f false) all ∙ get_or-map-range_with_len (λ g. has_body m g && every) 0 (length (funcs_of m)) f f false within (omega arith)
        ∙ ap (λ b. has_body m f && b) is in
        flag_of (has_body m f) (is_none functions) (is_listed m names (listed functions) f) (is_listed m names (listed except) f) (get_or a f false) (get_or b f false)
        (get_or c f false) start (first.flags f (omega (arith, within, long))) (second.flags f (omega (arith, within, long, first.long)))

-- what a `Vec` has whose elements were written as a slice
pub written : (n : ℕ) (now old : List Bool) → n ≡ length old → length now ≡ length old → take n (now ++ drop (length now) old) ≡ now
written n now old is same =
    ap (λ l. take n (now ++ l)) (drop_of_length-le old (omega arith)) ∙ ap (take n) (append-nil now) ∙ take_all n now (omega arith)
