-- The event of a key has the fields that its hook tells.
use Rattle.std.proofs.Common.{◌≡◌, ℕ, List, [], ◌∷◌, Option, refl}
use Rattle.wasm_sem.specs.Types.{ValType, NumOp, Value, Loc, GroupName}
use Rattle.wasm_num.specs.Shapes.{num_operands}
use Rattle.hook_select.specs.declared.GroupName.TheVariants as groups
use Rattle.hook_mono.specs.declared.HookKey.TheVariants as keys
use Rattle.hook_mono.specs.Told.{num_told, plain_told, told_event}
use Rattle.static_info.specs.Read.{plain_event, num_event, EventsAreTold}

module _ (at : ℕ → Option ℕ) where
  plain_events : (g : GroupName) (loc : Loc) (vs : List Value) → plain_event g loc vs ≡ told_event at (plain_told g) loc vs
  plain_events groups.Start loc [] = refl
  plain_events g loc [] = refl
  plain_events groups.Start loc (a ∷ []) = refl
  plain_events g loc (a ∷ []) = refl
  plain_events groups.Start loc (a ∷ b ∷ vs) = refl
  plain_events g loc (a ∷ b ∷ vs) = refl

  num_events : (op : NumOp) (ts : List ValType) (loc : Loc) (vs : List Value) → num_event op ts loc vs ≡ told_event at (num_told op ts) loc vs
  num_events op [] loc vs = refl
  num_events op (t ∷ []) loc [] = refl
  num_events op (t ∷ []) loc (a ∷ vs) = refl
  num_events op (t ∷ u ∷ ts) loc [] = refl
  num_events op (t ∷ u ∷ ts) loc (a ∷ []) = refl
  num_events op (t ∷ u ∷ ts) loc (a ∷ b ∷ vs) = refl

pub events_told : EventsAreTold
events_told info slots (keys.Plain g) loc vs = plain_events _ g loc vs
events_told info slots (keys.Num op) loc vs = num_events _ op (num_operands op) loc vs
events_told info slots key loc [] = refl
events_told info slots key loc (a ∷ []) = refl
events_told info slots key loc (a ∷ b ∷ vs) = refl
