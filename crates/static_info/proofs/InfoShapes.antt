-- The JSON value of information, its six keys one after another.
--     info_exact      what was read determines its value
--     info_again      information is read again from its value
--     shape_formed      what was read is of the form where its functions are
--     infos_unique      a value is that of one information at most
--     info_passed, info_refused, info_fault      what is answered for a value
use Rattle.std.proofs.Common.{◌≡◌, ◌≢◌, ◌↔◌, true≢false, Err, ℕ, ◌-◌, ◌^◌, List, [], ◌∷◌, map, get_or, Bool, true, false, IsTrue, Option, Some, None, All, AllPairs, bytes_eq, codes, refl, sym, ap, ap₂, ◌∙◌, subst, arith}
use Rattle.std.specs.Cmp.Lexicographic.{bytes_decides}
use Rattle.std.specs.Str.{is_utf8}
use Rattle.std.proofs.lemmas.Option.{option_and_then_some}
use Rattle.serde_json.specs.Data.{Data, number, string, array, object, null, boolean, Members, no_members, member}
use Rattle.serde_json.specs.Find.{as_str, get}
use Rattle.leb_binary.specs.Texts.{Text}
use Rattle.wasm_sem.specs.Types.{HookKey}
use Rattle.hook_mono.specs.Keys.{IsProper}
use Rattle.json_form.specs.declared.form.FormFault.{FormFault}
use Rattle.json_form.specs.declared.form.FormFault.TheVariants.{Wrong, NoMemory}
use Rattle.json_form.specs.Form.{ReadsForm, list_form, text_form, text_if, field_form, count_form, given_if, ◌>>=◌}
use Rattle.json_form.proofs.Exact.{then_some, passes, both, counted, count_exact, text_exact, list_exact}
use Rattle.json_form.proofs.Again.{then_gives, count_again, list_again}
use Rattle.json_form.proofs.Lists.{all_of_list}
use Rattle.json_form.proofs.TextForms.{text_given}
use Rattle.static_info.specs.declared.FuncInfo.{FuncInfo}
use Rattle.static_info.specs.declared.Info.{Info}
use Rattle.static_info.specs.Form.{IsWellFormed}
use Rattle.static_info.specs.Checks.{AreFunctions}
use Rattle.static_info.specs.Json.{list_of, count_data, text_data, func_data, groups_data, hook_data, info_data, IsInfo}
use Rattle.static_info.specs.Shape.{func_form, groups_form, hook_form, distinct_form, hooks_form, keys_of, same_names, has_exactly, info_keys, info_shape}
use Rattle.static_info.proofs.FuncShapes.{func_exact}
use Rattle.static_info.proofs.FuncAgain.{funcs_again}
use Rattle.static_info.proofs.KeysRead.{hook_exact, hook_proper, hook_again, distinct_exact, distinct_kept, groups_exact, groups_again}

-- ---- keys

names_are : (xs ys : List (List ℕ)) → same_names xs ys ≡ true → xs ≡ ys
names_are [] [] e = refl
names_are [] (y ∷ ys) e = cc
names_are (x ∷ xs) [] e = cc
names_are (x ∷ xs) (y ∷ ys) e =
    let b = both (bytes_eq x y) (same_names xs ys) e in ap₂ (λ z zs. z ∷ zs) ((bytes_decides x y).0 (subst IsTrue (sym b.0) refl)) (names_are xs ys b.1)

record Peeled (ms : Members) (k : List ℕ) (ks : List (List ℕ)) : Type 0 where
  value : Data
  rest : Members
  is : ms ≡ member k value rest
  behind : keys_of rest ≡ ks

peel : (ms : Members) (k : List ℕ) (ks : List (List ℕ)) → keys_of ms ≡ k ∷ ks → Peeled ms k ks
peel no_members k ks e = cc
peel (member l d ms) k ks e = let same : l ≡ k = cc in let more : keys_of ms ≡ ks = cc in record { value = d; rest = ms; is = ap (λ x. member x d ms) same; behind = more }

ended : (ms : Members) → keys_of ms ≡ [] → ms ≡ no_members
ended no_members e = refl
ended (member l d ms) e = cc

-- an object of six values
abbrev six : (a b c e f g : Data) → Data
six a b c e f g =
    object
    (member (codes "dropped") a
    (member (codes "functions") b
    (member (codes "groups") c
    (member (codes "hooks") e
    (member (codes "imports") f
    (member (codes "version") g no_members))))))

record Six (d : Data) : Type 0 where
  dropped : Data
  functions : Data
  groups : Data
  hooks : Data
  imports : Data
  version : Data
  is : d ≡ six dropped functions groups hooks imports version

members_of : (ms : Members) → keys_of ms ≡ info_keys → Six (object ms)
members_of ms e =
    let p1 = peel ms _ _ e in
    let p2 = peel p1.rest _ _ p1.behind in
    let p3 = peel p2.rest _ _ p2.behind in
    let p4 = peel p3.rest _ _ p3.behind in
    let p5 = peel p4.rest _ _ p4.behind in
    let p6 = peel p5.rest _ _ p5.behind in
    record {
      dropped = p1.value;
      functions = p2.value;
      groups = p3.value;
      hooks = p4.value;
      imports = p5.value;
      version = p6.value;
      is =
          ap object
          (p1.is ∙ ap (member (codes "dropped") p1.value)
          (p2.is ∙ ap (member (codes "functions") p2.value)
          (p3.is ∙ ap (member (codes "groups") p3.value)
          (p4.is ∙ ap (member (codes "hooks") p4.value)
          (p5.is ∙ ap (member (codes "imports") p5.value)
          (p6.is ∙ ap (member (codes "version") p6.value) (ended p6.rest p6.behind)))))));
    }

six_members : (d : Data) → has_exactly info_keys d ≡ true → Six d
six_members null e = cc
six_members (boolean b) e = cc
six_members (number n) e = cc
six_members (string s) e = cc
six_members (array ds) e = cc
six_members (object ms) e = members_of ms (sym (names_are info_keys (keys_of ms) e))

-- a value under a key of an object whose values are known
at_key : {A : Type 0} (d known : Data) (key : List ℕ) (form : Data → Option A) (a : A) → d ≡ known → field_form key form d ≡ Some a → field_form key form known ≡ Some a
at_key d known key form a is e = ap (field_form key form) (sym is) ∙ e

-- ---- the values

text_from : (bytes : List ℕ) (b : Bool) (e : is_utf8 bytes ≡ b) (t : Text) → text_if bytes b e ≡ Some t → t.bytes ≡ bytes
text_from bytes true e t is = let same : ◌≡◌ {A = Text} (record { bytes = bytes; utf8 = e }) t = cc in ap (λ (u : Text). u.bytes) (sym same)
text_from bytes false e t is = cc

name_exact : (d : Data) (t : Text) → text_form d ≡ Some t → text_data t ≡ d
name_exact d t e = option_and_then_some (λ bytes. text_if bytes (is_utf8 bytes) refl) (as_str d) t e (λ bytes is given. ap string (text_from bytes (is_utf8 bytes) refl t given) ∙ text_exact d bytes is)

hooks_exact : (d : Data) (keys : List HookKey) → hooks_form d ≡ Some keys → list_of (map hook_data keys) ≡ d
hooks_exact d keys e =
    let read = then_some (list_form hook_form d) distinct_form keys e in
    let kept = distinct_exact read.0 keys read.2 in
    ap (λ ks. list_of (map hook_data ks)) (sym kept.0) ∙ list_exact hook_form hook_data hook_exact d read.0 read.1

version_exact : (d : Data) (n : ℕ) → count_form 1 1 d ≡ Some n → count_data 1 ≡ d
version_exact d n e = let c = counted 1 1 d n e in let one : 1 ≡ n = omega (arith, c.0, c.1) in ap count_data one ∙ count_exact 1 1 d n e

six_same : (a b c e f g a2 b2 c2 e2 f2 g2 : Data) → a ≡ a2 → b ≡ b2 → c ≡ c2 → e ≡ e2 → f ≡ f2 → g ≡ g2 → six a b c e f g ≡ six a2 b2 c2 e2 f2 g2
six_same a b c e f g a2 b2 c2 e2 f2 g2 p q r s t u = cc

pub info_exact : (d : Data) (info : Info) → info_shape d ≡ Some info → info_data info ≡ d
info_exact d info e =
    let keys = then_some (given_if (has_exactly info_keys d) (tt {0})) _ info e in
    let s = six_members d (passes (has_exactly info_keys d) (tt {0}) keys.0 keys.1).0 in
    let known = six s.dropped s.functions s.groups s.hooks s.imports s.version in
    let version = then_some (field_form (codes "version") (count_form 1 1) d) _ info keys.2 in
    let imports = then_some (field_form (codes "imports") (count_form 0 (2 ^ 32 - 1)) d) _ info version.2 in
    let groups = then_some (field_form (codes "groups") groups_form d) _ info imports.2 in
    let hooks = then_some (field_form (codes "hooks") hooks_form d) _ info groups.2 in
    let functions = then_some (field_form (codes "functions") (list_form func_form) d) _ info hooks.2 in
    let dropped = then_some (field_form (codes "dropped") (list_form text_form) d) _ info functions.2 in
    let is : ◌≡◌ {A = Info} (record { groups = groups.0; imports = imports.0; hooks = hooks.0; functions = functions.0; dropped = dropped.0 }) info = cc (dropped.2) in
    ap info_data (sym is)
    ∙ six_same _ _ _ _ _ _ s.dropped s.functions s.groups s.hooks s.imports s.version
    (list_exact text_form text_data name_exact s.dropped dropped.0 (at_key d known (codes "dropped") (list_form text_form) dropped.0 s.is dropped.1))
    (list_exact func_form func_data func_exact s.functions functions.0 (at_key d known (codes "functions") (list_form func_form) functions.0 s.is functions.1))
    (groups_exact s.groups groups.0 (at_key d known (codes "groups") groups_form groups.0 s.is groups.1))
    (hooks_exact s.hooks hooks.0 (at_key d known (codes "hooks") hooks_form hooks.0 s.is hooks.1))
    (count_exact 0 (2 ^ 32 - 1) s.imports imports.0 (at_key d known (codes "imports") (count_form 0 (2 ^ 32 - 1)) imports.0 s.is imports.1))
    (version_exact s.version version.0 (at_key d known (codes "version") (count_form 1 1) version.0 s.is version.1))
    ∙ sym s.is

-- ---- read again

hooks_again : (keys : List HookKey) → All IsProper keys → AllPairs (λ a b. a ≢ b) keys → hooks_form (list_of (map hook_data keys)) ≡ Some keys
hooks_again keys proper distinct = then_gives _ distinct_form keys keys (list_again hook_form hook_data keys (λ k d l. hook_again _ (proper k d l))) (distinct_kept keys distinct)

names_again : (ts : List Text) → list_form text_form (list_of (map text_data ts)) ≡ Some ts
names_again ts = list_again text_form text_data ts (λ k d l. let t = get_or ts k d in text_given (text_data t) t refl)

info_data_again : (info : Info) → IsWellFormed info → info_shape (info_data info) ≡ Some info
info_data_again info h =
    let imports : count_form 0 (2 ^ 32 - 1) (count_data info.imports) ≡ Some info.imports = count_again 0 (2 ^ 32 - 1) info.imports (omega arith) (omega (arith, h.enough, h.count)) in
    let groups = groups_again info.groups in
    let hooks = hooks_again info.hooks h.proper h.distinct in
    let functions = funcs_again info.imports info.functions h.imported h.defined in
    let dropped = names_again info.dropped in
    ap (λ o. o >>= λ imports. groups_form (groups_data info.groups) >>= λ groups. hooks_form (list_of (map hook_data info.hooks)) >>= λ hooks. list_form func_form (list_of (map func_data info.functions)) >>= λ functions.
    list_form text_form (list_of (map text_data info.dropped)) >>= λ dropped. Some (record { groups = groups; imports = imports; hooks = hooks; functions = functions; dropped = dropped })) imports
    ∙ ap (λ o. o >>= λ groups. hooks_form (list_of (map hook_data info.hooks)) >>= λ hooks. list_form func_form (list_of (map func_data info.functions)) >>= λ functions.
    list_form text_form (list_of (map text_data info.dropped)) >>= λ dropped. Some (record { groups = groups; imports = info.imports; hooks = hooks; functions = functions; dropped = dropped })) groups
    ∙ ap (λ o. o >>= λ hooks. list_form func_form (list_of (map func_data info.functions)) >>= λ functions.
    list_form text_form (list_of (map text_data info.dropped)) >>= λ dropped. Some (record { groups = info.groups; imports = info.imports; hooks = hooks; functions = functions; dropped = dropped })) hooks
    ∙ ap (λ o. o >>= λ functions.
    list_form text_form (list_of (map text_data info.dropped)) >>= λ dropped. Some (record { groups = info.groups; imports = info.imports; hooks = info.hooks; functions = functions; dropped = dropped })) functions
    ∙ ap (λ o. o >>= λ dropped. Some (record { groups = info.groups; imports = info.imports; hooks = info.hooks; functions = info.functions; dropped = dropped })) dropped

pub info_again : (d : Data) (info : Info) → IsInfo d info → info_shape d ≡ Some info
info_again d info h = ap info_shape (sym h.1) ∙ info_data_again info h.0

pub infos_unique : (d : Data) (a b : Info) → IsInfo d a → IsInfo d b → a ≡ b
infos_unique d a b h i = let same : Some a ≡ Some b = sym (info_again d a h) ∙ info_again d b i in cc

-- ---- the form

hooks_formed : (d : Data) (keys : List HookKey) → hooks_form d ≡ Some keys → All IsProper keys × AllPairs (λ a b. a ≢ b) keys
hooks_formed d keys e =
    let read = then_some (list_form hook_form d) distinct_form keys e in
    let kept = distinct_exact read.0 keys read.2 in
    (subst (All IsProper) kept.0 (all_of_list hook_form IsProper hook_proper d read.0 read.1), kept.1)

pub shape_formed : (d : Data) (info : Info) → info_shape d ≡ Some info → AreFunctions info.imports info.functions → IsWellFormed info
shape_formed d info e h =
    let keys = then_some (given_if (has_exactly info_keys d) (tt {0})) _ info e in
    let version = then_some (field_form (codes "version") (count_form 1 1) d) _ info keys.2 in
    let imports = then_some (field_form (codes "imports") (count_form 0 (2 ^ 32 - 1)) d) _ info version.2 in
    let groups = then_some (field_form (codes "groups") groups_form d) _ info imports.2 in
    let hooks = then_some (field_form (codes "hooks") hooks_form d) _ info groups.2 in
    let functions = then_some (field_form (codes "functions") (list_form func_form) d) _ info hooks.2 in
    let dropped = then_some (field_form (codes "dropped") (list_form text_form) d) _ info functions.2 in
    let is : ◌≡◌ {A = Info} (record { groups = groups.0; imports = imports.0; hooks = hooks.0; functions = functions.0; dropped = dropped.0 }) info = cc (dropped.2) in
    let same : hooks.0 ≡ info.hooks = ap (λ (i : Info). i.hooks) is in
    option_and_then_some hooks_form (get (codes "hooks") d) hooks.0 hooks.1
    (λ v there given.
    let formed = hooks_formed v hooks.0 given in
    record {
      proper = subst (All IsProper) same formed.0;
      distinct = subst (AllPairs (λ a b. a ≢ b)) same formed.1;
      count = h.few;
      enough = h.enough;
      imported = h.imported;
      defined = h.defined;
    })

-- ---- what is answered

passed : (b : Bool) (imports : ℕ) (seen fs : List FuncInfo) → (IsTrue b ↔ AreFunctions imports seen) → seen ≡ fs → b ≡ true → AreFunctions imports fs
passed b imports seen fs tells is holds = subst (AreFunctions imports) is (tells.0 (subst IsTrue (sym holds) refl))

refused : (b : Bool) (imports : ℕ) (seen fs : List FuncInfo) → (IsTrue b ↔ AreFunctions imports seen) → seen ≡ fs → b ≡ false → AreFunctions imports fs → ⊥
refused b imports seen fs tells is fails h = let holds : IsTrue b = tells.1 (subst (AreFunctions imports) (sym is) h) in true≢false (sym holds ∙ fails)

-- information whose functions pass
pub info_passed : (d : Data) (info : Info) (b : Bool) (seen : List FuncInfo) → info_shape d ≡ Some info
    → (IsTrue b ↔ AreFunctions info.imports seen) → seen ≡ info.functions → b ≡ true → IsInfo d info
info_passed d info b seen e tells is holds = (shape_formed d info e (passed b info.imports seen info.functions tells is holds), info_exact d info e)

-- whose functions do not pass
pub info_refused : (d : Data) (info : Info) (b : Bool) (seen : List FuncInfo) → info_shape d ≡ Some info
    → (IsTrue b ↔ AreFunctions info.imports seen) → seen ≡ info.functions → b ≡ false → (other : Info) → IsInfo d other → ⊥
info_refused d info b seen e tells is fails other h =
    let again : Some info ≡ Some other = sym e ∙ info_again d other h in
    let same : info ≡ other = cc in
    let f = subst (λ (i : Info). IsWellFormed i) (sym same) h.0 in
    refused b info.imports seen info.functions tells is fails (record { few = f.count; enough = f.enough; imported = f.imported; defined = f.defined })

-- and a value of no shape
pub info_fault : (fault : FormFault) (d : Data) → ReadsForm {A = Info} (Err fault) (info_shape d) → fault ≡ Wrong → (other : Info) → IsInfo d other → ⊥
info_fault Wrong d e is other h = let again : None ≡ Some other = sym e ∙ info_again d other h in cc
info_fault NoMemory d e is other h = cc
