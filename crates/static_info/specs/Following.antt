-- The function imports of a module, one after another.
use Rattle.std.specs.Prelude.{◌≡◌, ℕ, zero, suc, List, [], ◌∷◌}
use Rattle.wasm_sem.specs.Types.{Module, HookKey}
use Rattle.static_info.specs.Belongs.{FuncImport, IsOwn, IsHook}

-- the imports are `own` functions of other modules, and then exactly these hooks
abbrev pub HooksFollow : Module → (own : ℕ) → List HookKey → List FuncImport → Type 0
HooksFollow m own hooks [] = (own ≡ 0) × (hooks ≡ [])
HooksFollow m (suc own) hooks (f ∷ fs) = IsOwn f × HooksFollow m own hooks fs
HooksFollow m zero [] (f ∷ fs) = ⊥
HooksFollow m zero (key ∷ hooks) (f ∷ fs) = IsHook m f key × HooksFollow m zero hooks fs
