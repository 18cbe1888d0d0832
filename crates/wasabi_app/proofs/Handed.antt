-- The modes that run take what `instrument` wrote.
use Rattle.std.proofs.Common.{◌≡◌, ◌≢◌, ℕ, ◌≤◌, List, length, codes, Option, Some, None, refl, sym, ap, ap₂, subst, ◌∙◌, option_map, option_and_then}
use Rattle.outside_io.specs.Outside.{Contents, Holds, ShelfState, PrintState, Wrote}
use Rattle.wasm_sem.specs.Types.{Module, Selection}
use Rattle.wasm_sem.proofs.Straight.{some_is}
use Rattle.module_ast.specs.Validation.{longest_file}
use Rattle.hook_mono.specs.Needed.{needed_keys}
use Rattle.name_map.specs.declared.Names.{Names}
use Rattle.static_info.specs.declared.Info.{Info}
use Rattle.static_info.specs.Info.{info_of}
use Rattle.static_info.specs.Json.{HoldInfo}
use Rattle.static_info.specs.Read.{info_remap}
use Rattle.instrument.specs.Made.{IsSound}
use Rattle.instrument.specs.Output.{hook_remap}
use Rattle.analyses.specs.Tools.{ToolState}
use Rattle.command_line.specs.Lines.{Line}
use Rattle.app_load.specs.Ends.{Ends}
use Rattle.app_load.specs.Plans.{Effect, Plan}
use Rattle.wasabi_app.specs.Composing.{ReportsOriginal}
use Rattle.wasabi_app.specs.Handed.{AsksForOutput, AsksForBoth, ReportsOn, WrittenIsTaken}
use Rattle.wasabi_app.specs.KeptNames.{CarriesNames, IsOutput}
use Rattle.wasabi_app.specs.Modes.{plan_of, plan_in}
use Rattle.wasabi_app.specs.Modes.Record.{record_plan}
use Rattle.wasabi_app.specs.Modes.Report.{report_plan}
use Rattle.wasabi_app.specs.Modes.Run.{run_plan}
use Rattle.wasabi_app.specs.Modes.Tree.{tree_plan}
use Rattle.wasabi_app.specs.Promised.{IsWorkDone, Made, PrintsReports}
use Rattle.wasabi_app.specs.ReadBack.{AreTaken, IsOfScript, OnlyBad, OutputIsRead}
use Rattle.wasabi_app.specs.ToldRuns.{with_both}
use Rattle.app_load.specs.Wants.{script_read}
use Rattle.wasabi_app.specs.Words.{Asks, Given}
use Rattle.wasabi_app.specs.Written.{IsExact, WroteInfo}
use Rattle.wasabi_app.proofs.Promised.{reported}
use Rattle.wasabi_app.proofs.ReadBack.{outputs_are_read, only_scripts}

-- ---- what stands on the shelf

-- two files were written under two names, and both stand there
both_stand : (info : Option (List ℕ)) (target output told : List ℕ) (old between : Option Contents) (contents : Contents) → info ≢ Some target
    → Wrote target output old between → WroteInfo info told between (Some contents)
    → (contents target ≡ Some output) × ((name : List ℕ) → info ≡ Some name → contents name ≡ Some told)
both_stand None target output told (Some was) (Some mid) contents apart wrote rest = (rest target ∙ wrote.0, λ name e. cc)
both_stand (Some n) target output told (Some was) (Some mid) contents apart wrote rest =
    (rest.1 target (λ same. apart (ap Some (sym same))) ∙ wrote.0, λ name e. ap contents (sym (some_is e)) ∙ rest.0)
both_stand None target output told None (Some mid) contents apart wrote rest = absurd wrote
both_stand (Some n) target output told None (Some mid) contents apart wrote rest = absurd wrote
both_stand None target output told old None contents apart wrote rest = absurd rest
both_stand (Some n) target output told old None contents apart wrote rest = absurd rest

-- what is read under a name is what stands there
bytes_are : (held : Option Contents) (contents : Contents) (name a b : List ℕ) → held ≡ Some contents → contents name ≡ Some a → Holds held name b → a ≡ b
bytes_are held contents name a b known at there = some_is (sym at ∙ subst (λ h. Holds h name b) known there)

-- ---- by mode

module _ (line : Line) (old new : Option Contents) (made : IsExact line old new) where
  abbrev m : Module
  m = made.written.is.original

  abbrev hooks : Selection
  hooks = made.written.hooks

  abbrev output : List ℕ
  output = made.written.output

  abbrev names : Names
  names = made.named.names

  -- with the information on the original
  sound_named : (sound : IsSound (info_of m hooks) m hooks output) × CarriesNames names (hook_remap m (needed_keys m hooks)) output sound.result
  sound_named =
      subst (λ (i : Info). (sound : IsSound i m hooks output) × CarriesNames names (info_remap i) output sound.result) made.info
      (made.written.is.sound, made.named.carries)

  abbrev has : IsOutput made.written.subject hooks made.named.keeps output
  has = record {
    original = m;
    accepted = made.written.is.accepted;
    names = names;
    kept = made.named.kept;
    output = made.output;
    sound = sound_named.0;
    named = sound_named.1;
  }

  -- whatever bytes are the same
  moved : (bytes : List ℕ) → output ≡ bytes → (is : IsOutput made.written.subject hooks made.named.keeps bytes) × (is.original ≡ m)
  moved bytes e = subst (λ b. (is : IsOutput made.written.subject hooks made.named.keeps b) × (is.original ≡ m)) e (has, refl)

  holds : HoldInfo made.written.told (info_of m hooks)
  holds = subst (HoldInfo made.written.told) made.info made.written.is.holds

  module _ (contents : Contents) (left : new ≡ Some contents) where
    stand : (contents made.written.target ≡ Some output) × ((name : List ℕ) → line.info ≡ Some name → contents name ≡ Some made.written.told)
    stand =
        both_stand line.info made.written.target output made.written.told old made.written.between contents made.written.apart made.written.wrote
        (subst (WroteInfo line.info made.written.told made.written.between) left made.written.wrote_info)

    output_there : (name : List ℕ) → line.out ≡ Some name → contents name ≡ Some output
    output_there name e = ap contents (some_is (sym e ∙ made.written.wanted)) ∙ stand.0

    module _ (words : List (List ℕ)) (first last : ShelfState) (was is : List ToolState) (before after : PrintState) (status : ℕ) (begins : first.contents ≡ Some contents)
        (x : Ends (plan_of words) first last was is before after status) where
      -- the plan of the words reads nothing bad but the script
      of_script : (g : Given) (mode script : List ℕ) (plan : Plan) → Asks words mode g → plan_in mode g ≡ Some plan → OnlyBad contents plan (script_read script)
          → IsOfScript contents script status
      of_script g mode script plan (read, named) planned only =
          let is_plan : plan_of words ≡ Some plan =
          ap (option_and_then (λ (h : Given). plan_in h.mode h)) read ∙ ap (λ name. plan_in name g) named ∙ planned in
          only_scripts contents plan script only first last was is before after status begins (subst (λ p. Ends p first last was is before after status) is_plan x)

      output_taken : (result : Module) × OutputIsRead output result
      output_taken = let read = outputs_are_read made.written.subject hooks made.named.keeps output has in (read.0, read.1)

      run_by : (g : Given) (script : List ℕ) → AsksForOutput line words (codes "run") g script → IsOfScript contents script status
      run_by g script (asks, subject, plays) =
          of_script g (codes "run") script (run_plan g.subject script) asks (ap (option_map (run_plan g.subject)) plays)
          (output_taken.1.run_by contents g.subject script (output_there g.subject subject))

      module _ (short : length made.written.told ≤ longest_file) (g : Given) (info script : List ℕ) (subject : line.out ≡ Some g.subject) (informs : line.info ≡ Some info) where
        taken : AreTaken contents g.subject info script
        taken =
            let read = outputs_are_read made.written.subject hooks made.named.keeps output has in
            (read.2 made.written.told holds short).taken contents g.subject info script (output_there g.subject subject) (stand.1 info informs)

      report_by : (g : Given) (info script : List ℕ) → AsksForBoth line words (codes "report") g info script → length made.written.told ≤ longest_file
          → IsOfScript contents script status
          × (IsWorkDone status → Made (ReportsOn m hooks first.contents g info script) first last was is before after status)
      report_by g info script ((asks, subject, plays), informs, info_is) short = (
        of_script g (codes "report") script (report_plan g.subject info script g.kinds g.keeps) asks
            (ap₂ (with_both (λ i s. report_plan g.subject i s g.kinds g.keeps)) info_is plays)
            ((taken short g info script subject informs).reported g.kinds g.keeps),
        λ done. original (reported words first last was is before after status x g info script asks info_is plays done),
      )
        where
          -- the bytes that were read are those that were written
          reports_on : (e : Effect) → PrintsReports first.contents g info script e → ReportsOn m hooks first.contents g info script e
          reports_on e prints =
              let (is, same) =
              moved prints.subject_there.bytes
              (bytes_are first.contents contents g.subject output prints.subject_there.bytes begins (output_there g.subject subject) prints.subject_there.read_well.there) in
              let told =
              bytes_are first.contents contents info made.written.told prints.info_there.bytes begins (stand.1 info informs) prints.info_there.read_well.there in
              let held : HoldInfo prints.info_there.bytes (info_of is.original hooks) =
              subst (λ x. HoldInfo prints.info_there.bytes (info_of x hooks)) (sym same) (subst (λ bytes. HoldInfo bytes (info_of m hooks)) told holds) in (
                prints,
                subst (λ x. ReportsOriginal x hooks prints.info prints.subject prints.script prints.script.steps) same
                    (prints.of_output made.written.subject hooks made.named.keeps is held),
              )

          original : Made (PrintsReports first.contents g info script) first last was is before after status
              → Made (ReportsOn m hooks first.contents g info script) first last was is before after status
          original (e, prints, worked) = (e, reports_on e prints, worked)

      record_by : (g : Given) (target info script : List ℕ) → AsksForBoth line words (codes "record") g info script → g.target ≡ Some target
          → length made.written.told ≤ longest_file → IsOfScript contents script status
      record_by g target info script ((asks, subject, plays), informs, info_is) target_is short =
          let next : List ℕ → Option Plan = λ t. with_both (λ i s. record_plan g.subject t i s g.bound) g.info g.script in
          of_script g (codes "record") script (record_plan g.subject target info script g.bound) asks
          (ap (option_and_then next) target_is ∙ ap₂ (with_both (λ i s. record_plan g.subject target i s g.bound)) info_is plays)
          ((taken short g info script subject informs).recorded target g.bound)

      tree_by : (g : Given) (info script : List ℕ) → AsksForBoth line words (codes "tree") g info script → length made.written.told ≤ longest_file
          → IsOfScript contents script status
      tree_by g info script ((asks, subject, plays), informs, info_is) short =
          of_script g (codes "tree") script (tree_plan g.subject info script) asks (ap₂ (with_both (tree_plan g.subject)) info_is plays)
          ((taken short g info script subject informs).treed)

pub written_is_taken : WrittenIsTaken
written_is_taken line old left first last contents made known begins words was is before after status x = record {
  run_by = run_by line old left.contents made contents known words first last was is before after status begins x;
  reported = report_by line old left.contents made contents known words first last was is before after status begins x;
  recorded = record_by line old left.contents made contents known words first last was is before after status begins x;
  treed = tree_by line old left.contents made contents known words first last was is before after status begins x;
}
