-- What is promised of the mode `instrument`.
use Rattle.std.proofs.Common.{◌≡◌, ◌≢◌, ℕ, ◌≤◌, ◌⊎◌, inl, inr, List, refl, sym, codes, ap, subst, ◌∙◌, arith, Bool, true, false, cond, nat_le, Option, Some, None, option_map, option_and_then}
use Rattle.std.proofs.lemmas.Slice.Eq.{bytes_eq-Decides}
use Rattle.std.proofs.lemmas.Bool.Decides.{nat_tests}
use Rattle.module_ast.specs.Validation.Limits.{IsWhole, longest_file, narrow}
use Rattle.module_ast.proofs.Wholes.{read_whole}
use Rattle.hook_select.specs.Groups.{reads, read_list}
use Rattle.static_info.specs.Info.{info_of}
use Rattle.static_info.proofs.Held.{info_held}
use Rattle.static_info.proofs.Formed.{infos_have_form}
use Rattle.outside_io.specs.Outside.{Contents, ShelfState, PrintState, Wrote}
use Rattle.wasm_sem.specs.Types.{Hooks, Module, Selection}
use Rattle.wasm_sem.specs.Execution.{IsFree}
use Rattle.instrument.specs.Accepted.{IsAccepted}
use Rattle.name_map.specs.declared.Names.{Names}
use Rattle.analyses.specs.Tools.{ToolState}
use Rattle.command_line.specs.Lines.{Line, line_of_words}
use Rattle.command_line.proofs.Parsed.{output_within}
use Rattle.app_load.specs.declared.kinds.Kinds.{Kinds}
use Rattle.app_load.specs.Wants.{Gives}
use Rattle.app_load.specs.Plans.{Effect, does, ends, LeadsTo}
use Rattle.app_load.specs.Writing.{WroteAll}
use Rattle.app_load.specs.Ends.{Ends}
use Rattle.app_load.specs.Statuses.{of_effects, of_prints}
use Rattle.app_load.proofs.Contents.{same_contents}
use Rattle.app_load.proofs.Deciding.{no_plan}
use Rattle.app_load.proofs.Telling.{tells_at}
use Rattle.wasabi_app.specs.KeptNames.{named_output}
use Rattle.wasabi_app.specs.Making.{named_length, information_text}
use Rattle.wasabi_app.specs.Modes.{plan_of, plan_in}
use Rattle.wasabi_app.specs.Modes.Instrument.{info_files, output_effect, output_plan, subject_read, instrument_plan, is_name, target_of}
use Rattle.wasabi_app.specs.Selecting.{IsSelected, names_kept, selected_by, selects}
use Rattle.wasabi_app.specs.Words.{Given, given, given_by, keeps_read}
use Rattle.wasabi_app.specs.Written.{IfInstrumented, IsChosen, IsDone, IsExact, IsNamed, IsWritten, WroteInfo}
use Rattle.wasabi_app.proofs.Chosen.{everywhere_is, found_leads, groups_are, kept_of, selected_is}
use Rattle.wasabi_app.proofs.Composed.{shell_belongs}
use Rattle.wasabi_app.proofs.KeptNames.{written_sound}
use Rattle.wasabi_app.proofs.Modes.Instrument.{hooked_leads}
use Rattle.wasabi_app.proofs.WordLines.{line_gives}

-- ---- what the words say

-- a target is a name, and not that of the information
target_parts : (info out : Option (List ℕ)) (target : List ℕ) → option_and_then (λ t. cond (is_name info t) None (Some t)) out ≡ Some target
    → (out ≡ Some target) × (info ≢ Some target)
target_parts info None target e = cc
target_parts info (Some t) target e = by (is_name info t) refl e
  where
    by : (b : Bool) → is_name info t ≡ b → cond b None (Some t) ≡ Some target → (Some t ≡ Some target) × (info ≢ Some target)
    by true h k = cc
    by false h k = (k, λ same. (let named : is_name info t ≡ true = ap (λ i. is_name i t) (same ∙ sym k) ∙ (bytes_eq-Decides t t).1 refl in cc))

-- work is not done with the statuses of words that have no plan
done_or_not : (status : ℕ) → IsDone status → (status ≡ 2) ⊎ (status ≡ 14) → ⊥
done_or_not status (inl done) (inl none) = omega (arith, done, none)
done_or_not status (inl done) (inr none) = omega (arith, done, none)
done_or_not status (inr done) (inl none) = omega (arith, done, none)
done_or_not status (inr done) (inr none) = omega (arith, done, none)

info_written : (info : Option (List ℕ)) (told : List ℕ) (old new : Option Contents) → WroteAll (info_files info told) old new → WroteInfo info told old new
info_written None told old new unchanged = unchanged
info_written (Some name) told old new (mid, wrote, unchanged) = subst (Wrote name told old) (sym (same_contents mid new unchanged)) wrote

le_of : (a b : ℕ) → nat_le a b ≡ true → a ≤ b
le_of a b e = grind (arith, nat_tests)

-- ---- what is written if the plan was carried out

module _ (line : Line) (groups : Hooks) (kinds : Kinds) (keeps : Bool) (target : List ℕ)
    (listed : read_list line.hooks ≡ reads groups) (chosen : keeps_read line.names ≡ Some keeps) (wanted : line.out ≡ Some target) (apart : line.info ≢ Some target)
    (most : line.max_output ≤ longest_file) (old new : Option Contents) where
  abbrev asked : Given
  asked = given_by line groups kinds keeps

  output_exact : (m : Module) (read : Names) (hooks : Selection) (given : Gives old (subject_read asked) (m, read))
      → selected_by groups line.functions line.except m read ≡ selects hooks → IsFree m → named_length m hooks (names_kept keeps read) ≤ line.max_output
      → WroteAll (output_effect asked target m hooks (names_kept keeps read)).files old new → IsExact line old new
  output_exact m read hooks given selected free within wrote =
      let names = names_kept keeps read in
      let kept = kept_of keeps line.functions line.except given.bytes m read given.spelled.2 in
      let short : named_length m hooks names ≤ longest_file = omega (arith, within, most) in
      let accepted : IsAccepted given.bytes m =
      record { spelled = given.spelled.0.spelled; limits = given.spelled.0.within; valid = given.spelled.1; free = free } in
      let (sound, carries) = written_sound given.bytes m hooks keeps names accepted given.read_well.short kept short in
      let same : groups ≡ hooks.groups = groups_are groups line.functions line.except m read hooks selected in
      let whole : IsWhole m = read_whole narrow given.bytes m (omega (arith, given.read_well.short)) (omega arith) given.spelled.0.spelled given.spelled.0.within in
      record {
        written = record {
          hooks = hooks;
          listed = subst (λ g. read_list line.hooks ≡ reads g) same listed;
          everywhere = everywhere_is groups line.functions line.except m read hooks selected;
          target = target;
          wanted = wanted;
          apart = apart;
          subject = given.bytes;
          there = given.read_well.there;
          short = given.read_well.short;
          output = named_output m hooks names;
          told = information_text m hooks;
          is = record {
            original = m;
            accepted = accepted;
            info = info_of m hooks;
            holds = info_held (info_of m hooks) (infos_have_form m hooks given.spelled.1 whole);
            groups = refl;
            sound = sound;
            belongs = shell_belongs m hooks sound.result free sound.shell;
          };
          within = within;
          between = wrote.0;
          wrote = wrote.1;
          wrote_info = info_written line.info (information_text m hooks) wrote.0 new wrote.2;
        };
        chosen =
            subst (λ g. IsSelected g line.functions line.except given.bytes m hooks) same
            (selected_is keeps groups line.functions line.except given.bytes m read hooks given.spelled.2 selected);
        named = record { keeps = keeps; chosen = chosen; names = names; kept = kept; carries = carries };
        output = refl;
        info = refl;
        told = refl;
      }

  effect_exact : (e : Effect) → LeadsTo old (instrument_plan asked target) (does e) → WroteAll e.files old new → IsExact line old new
  effect_exact e ((m, read), given, k) wrote =
      let names = names_kept keeps read in
      let s = found_leads old (selected_by groups line.functions line.except m read) (λ hooks. output_plan asked target m hooks names) e k in
      let hooks = s.0 in
      let long = named_length m hooks names in
      let h = hooked_leads old line.subject m long line.max_output (ends (does (output_effect asked target m hooks names))) e s.2 in
      let short : long ≤ line.max_output = le_of long line.max_output h.1 in
      let led = h.2 in
      let same : e ≡ output_effect asked target m hooks names = cc in
      output_exact m read hooks given s.1 h.0 short (subst (λ (x : Effect). WroteAll x.files old new) same wrote)

-- ---- the headline

module _ (words : List (List ℕ)) {old new : ShelfState} {was is : List ToolState} {before after : PrintState} (status : ℕ)
    (x : Ends (plan_of words) old new was is before after status) (done : IsDone status) where
  -- the plan of the words ended well, so there is one
  unplanned : (line : Line) → plan_of words ≡ None → IsExact line old.contents new.contents
  unplanned line none = absurd (done_or_not status done (no_plan status none x))

  module _ (line : Line) (said : line_of_words words ≡ Some line) (mode : line.mode ≡ codes "instrument") (groups : Hooks) (kinds : Kinds) (keeps : Bool)
      (listed : read_list line.hooks ≡ reads groups) (chosen : keeps_read line.names ≡ Some keeps) (read : given words ≡ Some (given_by line groups kinds keeps)) where
    abbrev g : Given
    g = given_by line groups kinds keeps

    plan_is : plan_of words ≡ option_map (instrument_plan g) (target_of g)
    plan_is = ap (option_and_then (λ (h : Given). plan_in h.mode h)) read ∙ ap (λ mode. plan_in mode g) mode

    planned : (target : List ℕ) → target_of g ≡ Some target → IsExact line old.contents new.contents
    planned target found = by done
      where
        ended : (n : ℕ) → status ≡ n → Ends (Some (instrument_plan g target)) old new was is before after n
        ended n e =
            subst (Ends (Some (instrument_plan g target)) old new was is before after) e
            (subst (λ p. Ends p old new was is before after status) (plan_is ∙ ap (option_map (instrument_plan g)) found) x)

        exactly : (e : Effect) → LeadsTo old.contents (instrument_plan g target) (does e) → WroteAll e.files old.contents new.contents → IsExact line old.contents new.contents
        exactly =
            let (wanted, apart) = target_parts line.info line.out target found in
            effect_exact line groups kinds keeps target listed chosen wanted apart (output_within words line said) old.contents new.contents

        by : IsDone status → IsExact line old.contents new.contents
        by (inl whole) =
            let t = tells_at 0 of_effects (ended 0 whole) refl in
            exactly t.0 t.1.leads t.1.files
        by (inr broken) =
            let t = tells_at 15 of_prints (ended 15 broken) refl in
            exactly t.1.0 t.1.1.leads t.1.1.files

    by_target : (o : Option (List ℕ)) → target_of g ≡ o → IsExact line old.contents new.contents
    by_target None e = unplanned line (plan_is ∙ ap (option_map (instrument_plan g)) e)
    by_target (Some target) e = planned target e

  by_given : (line : Line) → line_of_words words ≡ Some line → line.mode ≡ codes "instrument" → (o : Option Given) → given words ≡ o
      → IsExact line old.contents new.contents
  by_given line said mode None e = unplanned line (ap (option_and_then (λ (h : Given). plan_in h.mode h)) e)
  by_given line said mode (Some h) e =
      let parts = line_gives words line h said e in
      let g = given_by line parts.groups parts.kinds parts.keeps in
      by_target line said mode parts.groups parts.kinds parts.keeps parts.listed parts.chosen (e ∙ ap Some parts.is) (target_of g) refl

pub exact : (words : List (List ℕ)) {old new : ShelfState} {was is : List ToolState} {before after : PrintState} (status : ℕ)
    → Ends (plan_of words) old new was is before after status → IfInstrumented words status (λ line. IsExact line old.contents new.contents)
exact words status x line said mode done = by_given words status x done line said mode (given words) refl

pub named : (words : List (List ℕ)) {old new : ShelfState} {was is : List ToolState} {before after : PrintState} (status : ℕ)
    → Ends (plan_of words) old new was is before after status → IfInstrumented words status (λ line. IsNamed line old.contents new.contents)
named words status x line said mode done = let is = exact words status x line said mode done in (is.written, is.chosen, is.named)

pub chosen : (words : List (List ℕ)) {old new : ShelfState} {was is : List ToolState} {before after : PrintState} (status : ℕ)
    → Ends (plan_of words) old new was is before after status → IfInstrumented words status (λ line. IsChosen line old.contents new.contents)
chosen words status x line said mode done = let is = exact words status x line said mode done in (is.written, is.chosen)

pub written : (words : List (List ℕ)) {old new : ShelfState} {was is : List ToolState} {before after : PrintState} (status : ℕ)
    → Ends (plan_of words) old new was is before after status → IfInstrumented words status (λ line. IsWritten line old.contents new.contents)
written words status x line said mode done = (exact words status x line said mode done).written
