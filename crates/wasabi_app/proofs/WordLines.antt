-- Words are read as their definition says.
use Rattle.std.proofs.Common.{◌≡◌, ◌∙◌, ◌≤◌, ◌&&◌, List, refl, sym, ap, subst, Bool, true, false, cond, Option, Some, None, option_map, option_and_then}
use Rattle.module_ast.specs.Validation.Limits.{longest_file}
use Rattle.clap.specs.Words.{Text}
use Rattle.wasm_sem.specs.Types.{Hooks}
use Rattle.wasm_sem.proofs.Straight.{some_is, none_some}
use Rattle.hook_select.specs.Groups.{ListReading, reads, unknown, read_list}
use Rattle.app_load.specs.declared.kinds.Kinds.{Kinds}
use Rattle.app_load.specs.Kinds.{read_kinds}
use Rattle.command_line.specs.Lines.{AsksForNothing, IsLine, Line, line_of_words}
use Rattle.command_line.proofs.Parsed.{output_within}
use Rattle.wasabi_app.specs.Words.{Given, given_by, given_with, has_form, hooks_read, keeps_read, given_in, given}

-- what the words say is what their line says
pub given_is : (words : List Text) (line : Line) (o : Option Given) → IsLine words line → given_in line ≡ o → given words ≡ o
unfolding given
given_is words line o h e = ap (option_and_then given_in) h ∙ e

pub not_given : (words : List Text) → AsksForNothing words → given words ≡ None
unfolding given
not_given words none = ap (option_and_then given_in) none

-- ---- what is given is what the lists of the line name, and the rest of the line

pub record IsGivenBy (line : Line) (g : Given) : Type 0 where
  pub groups : Hooks
  pub kinds : Kinds
  pub keeps : Bool
  pub listed : read_list line.hooks ≡ reads groups
  pub chosen : keeps_read line.names ≡ Some keeps
  pub is : g ≡ given_by line groups kinds keeps

given_parts : (line : Line) (g : Given) (reading : ListReading) (kinds : Option Kinds) (keeps : Option Bool) → read_list line.hooks ≡ reading → keeps_read line.names ≡ keeps
    → option_and_then (λ h. option_and_then (λ k. option_map (given_by line h k) keeps) kinds) (hooks_read reading) ≡ Some g → IsGivenBy line g
given_parts line g (reads hooks) (Some k) (Some b) listed chosen e =
    record { groups = hooks; kinds = k; keeps = b; listed = listed; chosen = chosen; is = sym (some_is e) }
given_parts line g (unknown place) k b listed chosen e = cc
given_parts line g (reads hooks) None b listed chosen e = cc
given_parts line g (reads hooks) (Some k) None listed chosen e = cc

formed : {A : Type 0} (b : Bool) (o : Option A) {a : A} → cond b o None ≡ Some a → o ≡ Some a
formed true o e = e
formed false o e = cc

pub line_gives : (words : List Text) (line : Line) (g : Given) → IsLine words line → given words ≡ Some g → IsGivenBy line g
line_gives words line g h e =
    given_parts line g (read_list line.hooks) (read_kinds line.reports) (keeps_read line.names) refl refl
    (formed (has_form line.functions && has_form line.except) (given_with line) (sym (given_is words line (given_in line) h refl) ∙ e))

-- the bound is no more than the most that is written
pub given_bound : (words : List Text) (g : Given) → given words ≡ Some g → g.bound ≤ longest_file
given_bound words g e = by (line_of_words words) refl
  where
    by : (o : Option Line) → line_of_words words ≡ o → g.bound ≤ longest_file
    by None is = absurd (none_some (sym (not_given words is) ∙ e))
    by (Some line) is =
        let parts = line_gives words line g is e in
        subst (λ (x : Given). x.bound ≤ longest_file) (sym parts.is) (output_within words line is)
