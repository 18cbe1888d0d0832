-- What a command that is run with four fresh analyses came to.
use Rattle.app_load.proofs.Going.{no_memory}
use Rattle.std.proofs.Common.{◌≡◌, ℕ, List, [], Option, Some, None, Result, Ok, Err, IfOk, OnErr, refl, sym, subst, arith}
use Rattle.std.specs.Result.{result_unwrap_or}
use Rattle.std.proofs.lemmas.List.{append-nil}
use Rattle.outside_io.specs.Outside.{PrintedPart, ShelfState, PrintState}
use Rattle.analyses.specs.Tools.{ToolState}
use Rattle.app_load.specs.Ends.{Ends, refused_with}
use Rattle.app_load.specs.Feeding.{fresh_tools}
use Rattle.outside_io.specs.Outside.{ShelfState, PrintState}
use Rattle.app_load.specs.Printing.{said_no_memory}
use Rattle.app_load.specs.Texts.{no_memory_text}
use Rattle.app_load.proofs.Deciding.{decides_reads, decides_refusals, decides_effects, no_plan}
use Rattle.app_load.proofs.Telling.{tells}
use Rattle.wasabi_app.specs.Modes.{plan_of}
use Rattle.wasabi_app.specs.Ended.{IsEnded}
use Rattle.wasabi_app.proofs.Written.{written, chosen, named, exact}
use Rattle.wasabi_app.proofs.Promised.{reported, recorded, treed, tried, warned}

-- the plan of its words ended
pub fresh_ended : (words : List (List ℕ)) (old new : ShelfState) (taken : List ToolState) (before after : PrintState) (status : ℕ)
    → Ends (plan_of words) old new fresh_tools taken before after status
    → IsEnded words old new before after status
fresh_ended words old new taken before after status x = record {
  taken = taken;
  ends = x;
  tells = tells status x;
  written = written words status x;
  chosen = chosen words status x;
  named = named words status x;
  exact = exact words status x;
  reported = reported words old new fresh_tools taken before after status x;
  recorded = recorded words old new fresh_tools taken before after status x;
  treed = treed words old new fresh_tools taken before after status x;
  tried = tried words old new fresh_tools taken before after status x;
  warned = warned words old new fresh_tools taken before after status x;
  refused_words = λ none. no_plan status none x;
  reads = decides_reads status x;
  refusals = decides_refusals status x;
  effects = decides_effects status x;
}

pub ended : (words : List (List ℕ)) (old new : ShelfState) (was taken : List ToolState) (before after : PrintState) (status : ℕ) → was ≡ fresh_tools
    → Ends (plan_of words) old new was taken before after status
    → IsEnded words old new before after status
ended words old new was taken before after status fresh ends =
    fresh_ended words old new taken before after status (subst (λ t. Ends (plan_of words) old new t taken before after status) fresh ends)

-- ---- a command that was not begun

nothing_printed : (bytes : List ℕ) (text : Option (List ℕ)) → PrintedPart bytes text text
nothing_printed bytes None = ([], (bytes, refl), tt)
nothing_printed bytes (Some text) = ([], (bytes, refl), sym (append-nil text))

-- so it ends where there is no memory to begin it, and all is as before
pub unbegun : (words : List (List ℕ)) (at : ShelfState) (text : PrintState) → IsEnded words at at text text 14
unbegun words at text =
    fresh_ended words at at fresh_tools text text 14
    (refused_with 14 no_memory_text (no_memory (plan_of words) at fresh_tools)
    (said_no_memory 0 (omega arith) (nothing_printed no_memory_text text.text) (record { prints = refl; faults = omega arith })))

-- a command is begun, or all is as before
pub begun_or_not : {E S K : Type 0} (words : List (List ℕ)) (shelf_of : S → ShelfState) (print_of : K → PrintState) (old new : S) (before after : K)
    (result : Result ℕ E) → IfOk result (IsEnded words (shelf_of old) (shelf_of new) (print_of before) (print_of after))
    → OnErr result ((new ≡ old) × (after ≡ before))
    → IsEnded words (shelf_of old) (shelf_of new) (print_of before) (print_of after) (result_unwrap_or result 14)
begun_or_not words shelf_of print_of old new before after (Ok status) begun undone = begun
begun_or_not words shelf_of print_of old new before after (Err error) begun undone =
    subst (λ s. IsEnded words (shelf_of old) (shelf_of s) (print_of before) (print_of after) 14) (sym undone.0)
    (subst (λ k. IsEnded words (shelf_of old) (shelf_of old) (print_of before) (print_of k) 14) (sym undone.1) (unbegun words (shelf_of old) (print_of before)))
