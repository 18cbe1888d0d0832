-- Function imports one after another.
--     belongs_follows      information belongs where its hooks follow
--     belongs_not, belongs_at_end      where a function does not follow, and behind the last
use Rattle.std.proofs.Common.{◌≡◌, ◌↔◌, ℕ, zero, suc, ◌+◌, ◌<◌, ◌≤◌, ◌==◌, List, [], ◌∷◌, ◌++◌, length, drop, get_or, All, Bool, true, false, IsTrue, true≢false, refl, sym, ap, ◌∙◌, subst, arith}
use Rattle.std.specs.List.{AllZip}
use Rattle.std.proofs.lemmas.List.{drop_more, drop_all}
use Rattle.std.proofs.lemmas.Bool.{eqb-true}
use Rattle.std.proofs.lemmas.List.Elements.{All-nil, All-cons, All-head, All-tail}
use Rattle.wasm_sem.specs.Types.{Import, Module, HookKey}
use Rattle.module_ast.specs.declared.module.Item.TheVariants.{Func}
use Rattle.static_info.specs.Belongs.{FuncImport, func_import, func_imports, IsOwn, IsHook, ImportsHooks}
use Rattle.static_info.specs.Following.{HooksFollow}

-- ---- in parts

zip_follows : (m : Module) (fs : List FuncImport) (keys : List HookKey) → AllZip (IsHook m) fs keys → HooksFollow m 0 keys fs
zip_follows m [] [] h = (refl, refl)
zip_follows m [] (k ∷ ks) h = absurd h
zip_follows m (f ∷ fs) [] h = absurd h
zip_follows m (f ∷ fs) (k ∷ ks) h = (h.0, zip_follows m fs ks h.1)

own_follow : (m : Module) (own rest : List FuncImport) (keys : List HookKey) → All IsOwn own → AllZip (IsHook m) rest keys → HooksFollow m (length own) keys (own ++ rest)
own_follow m [] rest keys own h = zip_follows m rest keys h
own_follow m (f ∷ fs) rest keys own h = (All-head IsOwn f fs own, own_follow m fs rest keys (All-tail IsOwn f fs own) h)

record Parts (m : Module) (n : ℕ) (keys : List HookKey) (fs : List FuncImport) : Type 0 where
  own : List FuncImport
  rest : List FuncImport
  parts : fs ≡ own ++ rest
  count : length own ≡ n
  others : All IsOwn own
  hooks_follow : AllZip (IsHook m) rest keys

follows_parts : (m : Module) (n : ℕ) (keys : List HookKey) (fs : List FuncImport) → HooksFollow m n keys fs → Parts m n keys fs
follows_parts m n keys [] h = record { own = []; rest = []; parts = refl; count = sym h.0; others = All-nil IsOwn; hooks_follow = subst (AllZip (IsHook m) []) (sym h.1) tt }
follows_parts m (suc n) keys (f ∷ fs) h =
    let p = follows_parts m n keys fs h.1 in
    record { own = f ∷ p.own; rest = p.rest; parts = ap (λ l. f ∷ l) p.parts; count = ap suc p.count; others = All-cons IsOwn f p.own h.0 p.others; hooks_follow = p.hooks_follow }
follows_parts m zero [] (f ∷ fs) h = absurd h
follows_parts m zero (k ∷ ks) (f ∷ fs) h =
    let p = follows_parts m zero ks fs h.1 in
    let none : p.own ≡ [] = nothing p.own p.count in
    let all : fs ≡ p.rest = p.parts ∙ ap (λ o. o ++ p.rest) none in
    record { own = []; rest = f ∷ fs; parts = refl; count = refl; others = All-nil IsOwn; hooks_follow = (h.0, subst (λ (l : List FuncImport). AllZip (IsHook m) l ks) (sym all) p.hooks_follow) }
  where
    nothing : (l : List FuncImport) → length l ≡ 0 → l ≡ []
    nothing [] e = refl
    nothing (x ∷ xs) e = absurd (omega arith)

pub belongs_follows : (m : Module) (n : ℕ) (keys : List HookKey) → ImportsHooks m n keys ↔ HooksFollow m n keys (func_imports m.imports)
belongs_follows m n keys = (
  λ h. subst (HooksFollow m n keys) (sym h.parts) (subst (λ k. HooksFollow m k keys (h.own ++ h.rest)) h.count (own_follow m h.own h.rest keys h.others h.hooks_follow)),
  λ h. let p = follows_parts m n keys (func_imports m.imports) h in record { own = p.own; rest = p.rest; parts = p.parts; count = p.count; others = p.others; hooks_follow = p.hooks_follow },
)

-- ---- along the imports

-- an imported function is the first that is left
pub func_here : (items : List Import) (i : ℕ) (x : Import) (index : ℕ) → i < length items → x ≡ get_or items i x → x.item ≡ Func index
    → func_imports (drop i items) ≡ record { from = x.module; name = x.name; ty = index } ∷ func_imports (drop (i + 1) items)
func_here items i x index l is e =
    ap func_imports (drop_more items i x l)
    ∙ ap (λ (y : Import). func_import y y.item ++ func_imports (drop (i + 1) items)) (sym is)
    ∙ ap (λ item. func_import x item ++ func_imports (drop (i + 1) items)) e

-- where the next function does not follow, the information does not belong
pub belongs_not : (m : Module) (n : ℕ) (keys : List HookKey) (own : ℕ) (hooks new_hooks : List HookKey) (new_own : ℕ) (items : List Import) (i : ℕ) (x : Import) (index : ℕ) (b : Bool)
    → (HooksFollow m n keys (func_imports m.imports) ↔ HooksFollow m own hooks (func_imports (drop i items)))
    → i < length items → x ≡ get_or items i x → x.item ≡ Func index → b ≡ false
    → ((later : List FuncImport) → HooksFollow m own hooks (record { from = x.module; name = x.name; ty = index } ∷ later) ↔ (IsTrue b × HooksFollow m new_own new_hooks later))
    → IsTrue false ↔ ImportsHooks m n keys
belongs_not m n keys own hooks new_hooks new_own items i x index b so_far l is e no_more follows = (
  λ t. absurd (true≢false (sym t)),
  λ h.
      let left = so_far.0 ((belongs_follows m n keys).0 h) in
      let next = (follows (func_imports (drop (i + 1) items))).0 (subst (HooksFollow m own hooks) (func_here items i x index l is e) left) in
      subst IsTrue no_more next.0,
)

pub none_of_empty : {A : Type 0} (xs : List A) → IsTrue (length xs == 0) → xs ≡ []
none_of_empty [] t = refl
none_of_empty (x ∷ xs) t = absurd (omega (arith, eqb-true _ _ (holds t)))
  where
    holds : {b : Bool} → IsTrue b → b ≡ true
    holds t = t

-- behind the last import
pub belongs_at_end : (m : Module) (n : ℕ) (keys : List HookKey) (own : ℕ) (hooks : List HookKey) (items : List Import) (i : ℕ) (b : Bool)
    → (HooksFollow m n keys (func_imports m.imports) ↔ HooksFollow m own hooks (func_imports (drop i items)))
    → length items ≤ i → (IsTrue b → (own ≡ 0) × (hooks ≡ [])) → ((own ≡ 0) × (hooks ≡ []) → IsTrue b) → IsTrue b ↔ ImportsHooks m n keys
belongs_at_end m n keys own hooks items i b so_far l down up =
    let end = ap func_imports (drop_all i items l) in (
      λ t. (belongs_follows m n keys).1 (so_far.1 (subst (HooksFollow m own hooks) (sym end) (down t))),
      λ h. up (subst (HooksFollow m own hooks) end (so_far.0 ((belongs_follows m n keys).0 h))),
    )
