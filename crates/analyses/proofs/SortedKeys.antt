-- Sorted keys: each once and in order, and the same as those that were put in.
use Rattle.std.proofs.Common.{◌≡◌, List, [], ◌∷◌, ◌++◌, Bool, true, false, ◌||◌, true≢false, refl, ap, ap₂, sym, ◌∙◌, subst}
use Rattle.std.specs.declared.cmp.Ordering.{Ordering}
use Rattle.std.specs.declared.cmp.Ordering.TheVariants.{Less, Equal, Greater}
use Rattle.std.specs.Ordering.{is_eq, match_ordering, ordering_reverse}
use Rattle.std.specs.List.{AllByRecursion, list_any}
use Rattle.std.proofs.lemmas.List.Folds.{list_any-append}
use Rattle.std.proofs.lemmas.Cmp.{tied_itself}
use Rattle.analyses.specs.Book.{Key, key_cmp, key_in_order, sorted_keys}
use Rattle.analyses.proofs.KeyOrder.{key_cmp_total, key_cmp_same}

-- a key is among keys
abbrev pub member : Key → List Key → Bool
member q ks = list_any (λ j. is_eq (key_cmp q j)) ks

-- all are above a key
abbrev pub AreAbove : Key → List Key → Type 0
AreAbove k ks = AllByRecursion (λ j. key_cmp k j ≡ Less) ks

abbrev pub IsRising : List Key → Type 0
IsRising [] = Unit {0}
IsRising (k ∷ ks) = AreAbove k ks × IsRising ks

-- ---- all of them

pub all_weaker : {A : Type 0} {P Q : A → Type 0} (xs : List A) → ((x : A) → P x → Q x) → AllByRecursion P xs → AllByRecursion Q xs
all_weaker [] h all = all
all_weaker (x ∷ xs) h all = (h x all.0, all_weaker xs h all.1)

all_with_at : (P : Key → Type 0) (k j : Key) (js : List Key) → P k → P j × AllByRecursion P js → AllByRecursion P (key_in_order k js)
    → (o : Ordering) → AllByRecursion P (match_ordering o (k ∷ j ∷ js) (j ∷ js) (j ∷ key_in_order k js))
all_with_at P k j js one all rest Less = (one, all)
all_with_at P k j js one all rest Equal = all
all_with_at P k j js one all rest Greater = (all.0, rest)

pub all_with_key : (P : Key → Type 0) (k : Key) (js : List Key) → P k → AllByRecursion P js → AllByRecursion P (key_in_order k js)
all_with_key P k [] one all = (one, tt)
all_with_key P k (j ∷ js) one all = all_with_at P k j js one all (all_with_key P k js one all.1) (key_cmp k j)

pub all_sorted : (P : Key → Type 0) (ks : List Key) → AllByRecursion P ks → AllByRecursion P (sorted_keys ks)
all_sorted P [] all = tt
all_sorted P (k ∷ ks) all = all_with_key P k (sorted_keys ks) all.0 (all_sorted P ks all.1)

-- ---- in order

pub flipped : (a b : Key) (o : Ordering) → key_cmp a b ≡ o → key_cmp b a ≡ ordering_reverse o
flipped a b o is = key_cmp_total.antisymm b a ∙ ap ordering_reverse is

rising_at : (k j : Key) (js : List Key) → AreAbove j js × IsRising js → IsRising (key_in_order k js) → (o : Ordering) → key_cmp k j ≡ o
    → IsRising (match_ordering o (k ∷ j ∷ js) (j ∷ js) (j ∷ key_in_order k js))
rising_at k j js rising rest Less is = ((is, all_weaker js (λ q above. key_cmp_total.trans k j q is above) rising.0), rising)
rising_at k j js rising rest Equal is = rising
rising_at k j js rising rest Greater is = (all_with_key (λ q. key_cmp j q ≡ Less) k js (flipped k j Greater is) rising.0, rest)

pub rising_with_key : (k : Key) (js : List Key) → IsRising js → IsRising (key_in_order k js)
rising_with_key k [] rising = (tt, tt)
rising_with_key k (j ∷ js) rising = rising_at k j js rising (rising_with_key k js rising.1) (key_cmp k j) refl

pub rising_sorted : (ks : List Key) → IsRising (sorted_keys ks)
rising_sorted [] = tt
rising_sorted (k ∷ ks) = rising_with_key k (sorted_keys ks) (rising_sorted ks)

-- ---- the same keys

or_twice : (a b : Bool) → (a || b) ≡ (a || (a || b))
or_twice true b = refl
or_twice false b = refl

or_swap : (a b c : Bool) → (b || (a || c)) ≡ (a || (b || c))
or_swap true true c = refl
or_swap true false c = refl
or_swap false b c = refl

member_with_at : (q k j : Key) (js : List Key) → member q (key_in_order k js) ≡ (is_eq (key_cmp q k) || member q js) → (o : Ordering) → key_cmp k j ≡ o
    → member q (match_ordering o (k ∷ j ∷ js) (j ∷ js) (j ∷ key_in_order k js)) ≡ (is_eq (key_cmp q k) || member q (j ∷ js))
member_with_at q k j js rest Less is = refl
member_with_at q k j js rest Equal is =
    let same : k ≡ j = key_cmp_same k j is in
    subst (λ (x : Key). member q (j ∷ js) ≡ (is_eq (key_cmp q x) || member q (j ∷ js))) (sym same)
    (or_twice (is_eq (key_cmp q j)) (member q js))
member_with_at q k j js rest Greater is =
    ap (λ b. is_eq (key_cmp q j) || b) rest ∙ or_swap (is_eq (key_cmp q k)) (is_eq (key_cmp q j)) (member q js)

member_with_key : (q k : Key) (js : List Key) → member q (key_in_order k js) ≡ (is_eq (key_cmp q k) || member q js)
member_with_key q k [] = refl
member_with_key q k (j ∷ js) = member_with_at q k j js (member_with_key q k js) (key_cmp k j) refl

pub member_sorted : (q : Key) (ks : List Key) → member q (sorted_keys ks) ≡ member q ks
member_sorted q [] = refl
member_sorted q (k ∷ ks) = member_with_key q k (sorted_keys ks) ∙ ap (λ b. is_eq (key_cmp q k) || b) (member_sorted q ks)

pub member_self : (k : Key) (ks : List Key) → member k (k ∷ ks) ≡ true
member_self k ks = ap (λ o. is_eq o || member k ks) (tied_itself key_cmp_total k)

pub not_below : (k : Key) (ks : List Key) → AreAbove k ks → member k ks ≡ false
not_below k [] above = refl
not_below k (j ∷ js) above = ap (λ o. is_eq o || member k js) above.0 ∙ not_below k js above.1

-- ---- one list for each set of keys

not_among : (k j : Key) (js : List Key) → IsRising (j ∷ js) → key_cmp k j ≡ Less → member k (j ∷ js) ≡ false
not_among k j js rising below =
    not_below k (j ∷ js) (below, all_weaker js (λ q above. key_cmp_total.trans k j q below above) rising.0)

-- without a first key, where it is among the others in neither list
rest_same : (x q : Key) (xs ys : List Key) → AreAbove x xs → AreAbove x ys → member q (x ∷ xs) ≡ member q (x ∷ ys) → (o : Ordering) → key_cmp q x ≡ o
    → member q xs ≡ member q ys
rest_same x q xs ys above beside same Equal is =
    let e : q ≡ x = key_cmp_same q x is in
    subst (λ (z : Key). member z xs ≡ member z ys) (sym e) (not_below x xs above ∙ sym (not_below x ys beside))
rest_same x q xs ys above beside same Less is = rw is at same
rest_same x q xs ys above beside same Greater is = rw is at same

unique_at : (x y : Key) (xs ys : List Key) → IsRising (x ∷ xs) → IsRising (y ∷ ys) → ((q : Key) → member q (x ∷ xs) ≡ member q (y ∷ ys))
    → (IsRising xs → IsRising ys → ((q : Key) → member q xs ≡ member q ys) → xs ≡ ys) → (o : Ordering) → key_cmp x y ≡ o → x ∷ xs ≡ y ∷ ys
unique_at x y xs ys rising upward same rest Less is =
    absurd (true≢false (sym (member_self x xs) ∙ same x ∙ not_among x y ys upward is))
unique_at x y xs ys rising upward same rest Greater is =
    absurd (true≢false (sym (member_self y ys) ∙ sym (same y) ∙ not_among y x xs rising (flipped x y Greater is)))
unique_at x y xs ys rising upward same rest Equal is =
    let e : y ≡ x = sym (key_cmp_same x y is) in
    let beside : AreAbove x ys = subst (λ (z : Key). AreAbove z ys) e upward.0 in
    let alike : (q : Key) → member q (x ∷ xs) ≡ member q (x ∷ ys) = λ q. subst (λ (z : Key). member q (x ∷ xs) ≡ member q (z ∷ ys)) e (same q) in
    ap₂ (λ z zs. z ∷ zs) (sym e) (rest rising.1 upward.1 (λ q. rest_same x q xs ys rising.0 beside (alike q) (key_cmp q x) refl))

rising_unique : (xs ys : List Key) → IsRising xs → IsRising ys → ((q : Key) → member q xs ≡ member q ys) → xs ≡ ys
rising_unique [] [] rising upward same = refl
rising_unique [] (y ∷ ys) rising upward same = absurd (true≢false (sym (member_self y ys) ∙ sym (same y)))
rising_unique (x ∷ xs) [] rising upward same = absurd (true≢false (sym (member_self x xs) ∙ same x))
rising_unique (x ∷ xs) (y ∷ ys) rising upward same =
    unique_at x y xs ys rising upward same (rising_unique xs ys) (key_cmp x y) refl

or_last : (a b : Bool) → (b || (a || false)) ≡ (a || b)
or_last true true = refl
or_last true false = refl
or_last false true = refl
or_last false false = refl

-- a key that comes last is put in among the others
pub sorted_keys-snoc : (ks : List Key) (k : Key) → sorted_keys (ks ++ k ∷ []) ≡ key_in_order k (sorted_keys ks)
sorted_keys-snoc ks k =
    rising_unique (sorted_keys (ks ++ k ∷ [])) (key_in_order k (sorted_keys ks)) (rising_sorted (ks ++ k ∷ [])) (rising_with_key k (sorted_keys ks) (rising_sorted ks))
    (λ q. member_sorted q (ks ++ k ∷ []) ∙ list_any-append (λ j. is_eq (key_cmp q j)) ks (k ∷ [])
    ∙ or_last (is_eq (key_cmp q k)) (member q ks)
    ∙ sym (member_with_key q k (sorted_keys ks) ∙ ap (λ b. is_eq (key_cmp q k) || b) (member_sorted q ks)))
