-- What `instrument` wrote is read by every mode that reads an output.
use Rattle.std.proofs.Common.{◌≡◌, ℕ, ◌≤◌, inl, inr, List, [], length, Bool, true, false, Option, Some, None, refl, sym, subst, arith, nat_le}
use Rattle.outside_io.specs.Outside.{Contents, Holds, ShelfState}
use Rattle.wasm_sem.specs.Types.{Loc, Module, Selection}
use Rattle.module_ast.specs.Validation.{wide, longest_file}
use Rattle.wasm_sem.specs.declared.Script.{Script}
use Rattle.wasm_sem.specs.Execution.{link}
use Rattle.wasm_sem.specs.Link as linking
use Rattle.name_map.specs.declared.Names.{Names}
use Rattle.name_map.specs.Names.{no_names}
use Rattle.static_info.specs.declared.Info.{Info}
use Rattle.static_info.specs.Belongs.{Belongs}
use Rattle.static_info.specs.Info.{info_of}
use Rattle.static_info.specs.Json.{HoldInfo}
use Rattle.analyses.specs.Tools.{ToolState}
use Rattle.app_load.specs.declared.kinds.Kinds.{Kinds}
use Rattle.app_load.specs.Statuses as statuses
use Rattle.app_load.specs.Ends.{Ends, IsBad, IsUnread, IsRefuted, absent, over, wrong}
use Rattle.app_load.specs.Files.{IsFit, IsNoScript}
use Rattle.app_load.specs.Plans.{done, prints, does, Ending, Plan, reads, ends, LeadsTo, ComesTo}
use Rattle.outside_io.specs.Outside.{ShelfState, PrintState}
use Rattle.app_load.specs.Wants.{Read, module_read, named_read, info_read, script_read, Gives, AreKept, content}
use Rattle.app_load.proofs.Leading.{comes_not_leads}
use Rattle.app_load.proofs.Telling.{tells_at}
use Rattle.app_runs.specs.Texts.{ok_text, counts_of}
use Rattle.app_runs.specs.Recording.{recorded_bytes}
use Rattle.call_tree.specs.Unnested.{first_unnested}
use Rattle.app_runs.specs.Treeing.{tells_brackets, tree_items}
use Rattle.wasabi_app.specs.KeptNames.{IsOutput, output_names}
use Rattle.wasabi_app.specs.Modes.Check.{check_plan}
use Rattle.wasabi_app.specs.Modes.Record.{record_effect, kept_within, record_plan}
use Rattle.wasabi_app.specs.Modes.Report.{report_plan}
use Rattle.wasabi_app.specs.Modes.Run.{run_plan}
use Rattle.wasabi_app.specs.Modes.Tree.{where_nested, treed_plan, where_told, tree_plan, tree_text}
use Rattle.wasabi_app.specs.Playing.{linked, ending_finish}
use Rattle.wasabi_app.specs.ReadBack.{OnlyBad, OutputIsRead, AreTaken, InfoIsRead, OutputsAreRead, IsOfScript, OnlyScriptsAreRefused}
use Rattle.wasabi_app.specs.ToldRuns.{scripted}
use Rattle.wasabi_app.proofs.Composed.{shell_belongs}
use Rattle.wasabi_app.proofs.Traces.{leads_only}

-- ---- plans that read nothing more

-- where a plan leads somewhere, none of its reads is bad
none_bad : (contents : Contents) (plan : Plan) (e : Ending) → LeadsTo (Some contents) plan e → (read : Read) (status : ℕ) → ComesTo (Some contents) plan read
    → IsBad contents read status → ⊥
none_bad contents plan e leads read status comes bad = comes_not_leads contents plan read status e comes bad leads

-- somewhere
abbrev nowhere : Ending
nowhere = does (prints [] done)

linked_reads : (held : Option Contents) (s : Script) (o : Option linking.Refusal) (plan : Plan) (read : Read) → ComesTo held (linked s o plan) read
    → ComesTo held plan read
linked_reads held s None plan read c = c
linked_reads held s (Some why) plan read c = absurd c

kept_reads : (held : Option Contents) (within : Bool) (bound : ℕ) (e : Ending) (read : Read) → ComesTo held (kept_within within bound (ends e)) read → ⊥
kept_reads held true bound e read c = c
kept_reads held false bound e read c = c

nested_reads : (held : Option Contents) (o : Option Loc) (e : Ending) (read : Read) → ComesTo held (where_nested o (ends e)) read → ⊥
nested_reads held None e read c = c
nested_reads held (Some p) e read c = c

told_reads : (held : Option Contents) (told : Bool) (plan : Plan) (read : Read) → ComesTo held (where_told told plan) read → ComesTo held plan read
told_reads held true plan read c = c
told_reads held false plan read c = absurd c

-- ---- the modes

abbrev subject_plan : (subject : List ℕ) → Plan
subject_plan subject = reads (module_read subject longest_file wide) (λ m. ends nowhere)

-- the script is the last read of a plan that was led to by the others
run_only : (contents : Contents) (subject script : List ℕ) → LeadsTo (Some contents) (subject_plan subject) nowhere
    → OnlyBad contents (run_plan subject script) (script_read script)
run_only contents subject script leads read status (inl first) bad =
    absurd (none_bad contents (subject_plan subject) nowhere leads read status (inl first) bad)
run_only contents subject script leads read status (inr (m, there, inl last)) bad = sym last
run_only contents subject script leads read status (inr (m, there, inr (s, found, more))) bad =
    absurd (linked_reads (Some contents) s (link m s) _ read more)

module _ (contents : Contents) (subject info_name script : List ℕ) where
  abbrev pair_plan : Plan
  pair_plan = reads (module_read subject longest_file wide) (λ m. reads (info_read info_name m) (λ info. ends nowhere))

  abbrev named_plan : (keeps : Bool) → Plan
  named_plan keeps =
      reads (named_read subject longest_file wide keeps) (λ named. reads (info_read info_name named.0) (λ info. ends nowhere))

  report_only : (kinds : Kinds) (keeps : Bool) → LeadsTo (Some contents) (named_plan keeps) nowhere
      → OnlyBad contents (report_plan subject info_name script kinds keeps) (script_read script)
  report_only kinds keeps leads read status (inl first) bad = absurd (none_bad contents (named_plan keeps) nowhere leads read status (inl first) bad)
  report_only kinds keeps leads read status (inr (named, there, inl second)) bad =
      absurd (none_bad contents (named_plan keeps) nowhere leads read status (inr (named, there, inl second)) bad)
  report_only kinds keeps leads read status (inr (named, there, inr (info, known, inl last))) bad = sym last
  report_only kinds keeps leads read status (inr (named, there, inr (info, known, inr (s, found, more)))) bad =
      absurd (linked_reads (Some contents) s (link named.0 s) _ read more)

  record_only : (target : List ℕ) (bound : ℕ) → LeadsTo (Some contents) pair_plan nowhere
      → OnlyBad contents (record_plan subject target info_name script bound) (script_read script)
  record_only target bound leads read status (inl first) bad = absurd (none_bad contents pair_plan nowhere leads read status (inl first) bad)
  record_only target bound leads read status (inr (m, there, inl second)) bad =
      absurd (none_bad contents pair_plan nowhere leads read status (inr (m, there, inl second)) bad)
  record_only target bound leads read status (inr (m, there, inr (info, known, inl last))) bad = sym last
  record_only target bound leads read status (inr (m, there, inr (info, known, inr (s, found, more)))) bad =
      absurd (kept_reads (Some contents) (nat_le (length (recorded_bytes info m s)) bound) bound (does (record_effect target m info s)) read
      (linked_reads (Some contents) s (link m s) _ read more))

  -- behind the information of a tree
  tree_behind : (m : Module) (info : Info) (read : Read) → ComesTo (Some contents) (scripted script treed_plan m info) read → read ≡ script_read script
  tree_behind m info read (inl last) = sym last
  tree_behind m info read (inr (s, found, more)) =
      absurd (nested_reads (Some contents) (first_unnested (tree_items m info s)) (does (prints (tree_text m info s) (ending_finish m s))) read
      (linked_reads (Some contents) s (link m s) _ read more))

  tree_only : LeadsTo (Some contents) pair_plan nowhere → OnlyBad contents (tree_plan subject info_name script) (script_read script)
  tree_only leads read status (inl first) bad = absurd (none_bad contents pair_plan nowhere leads read status (inl first) bad)
  tree_only leads read status (inr (m, there, inl second)) bad =
      absurd (none_bad contents pair_plan nowhere leads read status (inr (m, there, inl second)) bad)
  tree_only leads read status (inr (m, there, inr (info, known, more))) bad =
      tree_behind m info read (told_reads (Some contents) (tells_brackets info) (scripted script treed_plan m info) read more)

-- ---- the output of an accepted file, and its information

module _ (file : List ℕ) (hooks : Selection) (keeps : Bool) (written : List ℕ) (has : IsOutput file hooks keeps written) where
  abbrev result : Module
  result = has.sound.result

  fit : IsFit wide written result
  fit = record { spelled = has.sound.spelled; within = has.sound.limits }

  plain_there : (held : Option Contents) (name : List ℕ) → Holds held name written → Gives held (module_read name longest_file wide) result
  plain_there held name there =
      record { bytes = written; read_well = record { there = there; short = has.sound.short }; spelled = (fit, has.sound.valid) }

  -- with the names that it carries
  carried : (kept : Bool) → (names : Names) × AreKept kept written result names
  carried false = (no_names, refl)
  carried true = (output_names has.original hooks has.names, has.named.carries)

  named_there : (kept : Bool) → (names : Names)
      × ((held : Option Contents) (name : List ℕ) → Holds held name written → Gives held (named_read name longest_file wide kept) (result, names))
  named_there kept =
      let (names, are) = carried kept in
      (names, λ held name there. record { bytes = written; read_well = record { there = there; short = has.sound.short }; spelled = (fit, has.sound.valid, are) })

  output_read : OutputIsRead written result
  output_read = record {
    plain = plain_there;
    named = named_there;
    checked = λ contents subject there.
        leads_only (Some contents) (check_plan subject) (prints (ok_text (counts_of result)) done) (result, plain_there (Some contents) subject there, refl);
    run_by = λ contents subject script there. run_only contents subject script (result, plain_there (Some contents) subject there, refl);
  }

  module _ (told : List ℕ) (holds : HoldInfo told (info_of has.original hooks)) (short : length told ≤ longest_file) where
    belongs : Belongs (info_of has.original hooks) result
    belongs = shell_belongs has.original hooks result has.accepted.free has.sound.shell

    informed_there : (held : Option Contents) (name : List ℕ) → Holds held name told → Gives held (info_read name result) (info_of has.original hooks)
    informed_there held name there = record { bytes = told; read_well = record { there = there; short = short }; spelled = (holds, belongs) }

    are_taken : (contents : Contents) (subject info_name script : List ℕ) → contents subject ≡ Some written → contents info_name ≡ Some told
        → AreTaken contents subject info_name script
    are_taken contents subject info_name script subject_there info_there =
        let info = informed_there (Some contents) info_name info_there in
        let pair : LeadsTo (Some contents) (pair_plan contents subject info_name script) nowhere =
        (result, plain_there (Some contents) subject subject_there, (info_of has.original hooks, info, refl)) in
        record {
          reported = λ kinds kept.
              let (carried_names, there) = named_there kept in
              report_only contents subject info_name script kinds kept ((result, carried_names), there (Some contents) subject subject_there, (info_of has.original hooks, info, refl));
          recorded = λ target bound. record_only contents subject info_name script target bound pair;
          treed = tree_only contents subject info_name script pair;
        }

    pub told_read : InfoIsRead written told has.original hooks result
    told_read = record { informed = informed_there; taken = are_taken }

pub outputs_are_read : OutputsAreRead
outputs_are_read file hooks keeps written has =
    (has.sound.result, output_read file hooks keeps written has, λ told holds short. told_read file hooks keeps written has told holds short)

-- ---- statuses

module _ (contents : Contents) (plan : Plan) (script : List ℕ) (only : OnlyBad contents plan (script_read script)) where
  -- bytes that are wrong are a script's
  refuted_script : (status : ℕ) → IsRefuted (Some plan) (Some contents) status → status ≡ 10
  refuted_script status (read, bytes, comes, is_read, is_wrong) =
      let same : read ≡ script_read script = only read status comes (wrong bytes status is_read.there is_read.short is_wrong) in
      let unscripted : (status ≡ 10) × IsNoScript bytes = subst (λ (r : Read). (content r.want).IsWrong bytes status) same is_wrong in
      unscripted.0

  -- and so is a name that is not there
  is_last : (read : Read) → ComesTo (Some contents) plan read → IsBad contents read 3 → IsBad contents (script_read script) 3
  is_last read comes bad = subst (λ (r : Read). IsBad contents r 3) (only read 3 comes bad) bad

  unread_script : (old new : (name : List ℕ) → ℕ) → IsUnread (Some plan) (Some contents) old new → IsBad contents (script_read script) 3
  unread_script old new (read, comes, inl missing) = is_last read comes (absent missing)
  unread_script old new (read, comes, inr (long, (bytes, there, is, above))) = is_last read comes (over bytes there above)

  of_script : (old new : ShelfState) (was is : List ToolState) (before after : PrintState) (status : ℕ) → old.contents ≡ Some contents
      → Ends (Some plan) old new was is before after status → IsOfScript contents script status
  of_script old new was is before after status told x =
      let at : (n : ℕ) → status ≡ n → Ends (Some plan) old new was is before after n = λ n e. subst (Ends (Some plan) old new was is before after) e x in
      let bytes : (n : ℕ) → IsRefuted (Some plan) old.contents n → IsRefuted (Some plan) (Some contents) n = λ n. subst (λ h. IsRefuted (Some plan) h n) told in
      record {
        unread = λ e.
            unread_script old.read_faults new.read_faults
            (subst (λ h. IsUnread (Some plan) h old.read_faults new.read_faults) told (tells_at 3 statuses.of_names (at 3 e) refl).0);
        not_malformed = λ e. (let ten : 6 ≡ 10 = refuted_script 6 (bytes 6 (tells_at 6 statuses.of_bytes (at 6 e) refl).0) in omega (arith, ten));
        not_unfit = λ e. (let ten : 7 ≡ 10 = refuted_script 7 (bytes 7 (tells_at 7 statuses.of_bytes (at 7 e) refl).0) in omega (arith, ten));
        not_invalid = λ e. (let ten : 8 ≡ 10 = refuted_script 8 (bytes 8 (tells_at 8 statuses.of_bytes (at 8 e) refl).0) in omega (arith, ten));
        not_foreign = λ e. (let ten : 16 ≡ 10 = refuted_script 16 (bytes 16 (tells_at 16 statuses.of_bytes (at 16 e) refl).0) in omega (arith, ten));
      }

pub only_scripts : OnlyScriptsAreRefused
only_scripts contents plan script only = of_script contents plan script only
