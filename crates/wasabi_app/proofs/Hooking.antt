-- An output that is made and written, or is not.
use Rattle.std.proofs.Common.{◌≡◌, ◌≢◌, ℕ, ◌≤◌, ◌<◌, List, [], ◌∷◌, length, refl, inl, inr, sym, ap, subst, ◌∙◌, arith, Bool, true, false, ◌||◌, nat_le, length-append, append-nil, All, Option, Some, None, Err, Result, Ok, OnOk}
use Rattle.std.specs.List.{list_any}
use Rattle.std.proofs.lemmas.Bool.Decides.{nat_tests}
use Rattle.std.proofs.lemmas.List.Elements.{All-head, All-tail}
use Rattle.std.proofs.lemmas.Slice.Eq.{bytes_eq-Decides}
use Rattle.outside_io.specs.Outside.{Contents, Wrote, OnlyWrote}
use Rattle.wasm_sem.specs.Types.{Import, Module, Selection}
use Rattle.module_ast.specs.Binary.{module_bytes, Gram}
use Rattle.module_ast.proofs.LeastModules.{module_least}
use Rattle.module_ast.specs.Validation.Limits.{longest_narrow_file}
use Rattle.wasm_sem.specs.Execution.{IsFree, is_hook, hook_module}
use Rattle.name_map.specs.declared.Names.{Names}
use Rattle.name_map.specs.Written.{name_section_bytes}
use Rattle.name_map.specs.Names.{no_names}
use Rattle.static_info.specs.declared.Info.{Info}
use Rattle.instrument.specs.Made.{IsMade}
use Rattle.instrument.specs.Output.{output_bytes}
use Rattle.analyses.specs.Tools.{ToolState}
use Rattle.wasabi_app.specs.KeptNames.{named_output, output_names}
use Rattle.wasabi_app.specs.Making.{hook_count, IsNamedMade, named_length, output_length, information_text}
use Rattle.outside_io.specs.Outside.{ShelfState}
use Rattle.wasabi_app.specs.Words.{Given}
use Rattle.wasabi_app.specs.Texts.{taken_text, too_large_text, wrote_text}
use Rattle.app_load.specs.Writing.{PutCause, FilesCause, WroteAll}
use Rattle.app_load.specs.declared.printing.Refusal.{Refusal}
use Rattle.app_load.specs.declared.printing.Refusal.TheVariants.{NoMemory}
use Rattle.app_load.specs.Ends.{IsCarriedOut, unwritten}
use Rattle.wasabi_app.specs.Hooking.{GetsNone, IsOutputMade}
use Rattle.wasabi_app.specs.Modes.Instrument.{names_hooks, info_files, output_effect, hooked, output_plan}
use Rattle.app_load.specs.declared.status.Status.{Status}
use Rattle.app_load.specs.declared.status.Status.TheVariants.{Done}
use Rattle.app_load.specs.Outcomes.{IsRefusal, Yields, refusal_status, refusal_text}
use Rattle.app_load.specs.Plans.{no_output, finish_status, File, file, Effect, does, Plan, ends}
use Rattle.app_load.proofs.Contents.{unchanged_same, none_read, write_then}
use Rattle.app_load.proofs.Going.{no_memory, was_refused}
use Rattle.wasabi_app.proofs.Modes.Instrument.{names_none, hooked_taken, hooked_large, hooked_well}
use Rattle.app_load.proofs.Shelves.{fed_none}

-- ---- a module that gets hooks, or gets none

free_imports : (imports : List Import) → All (λ (i : Import). i.module.bytes ≢ hook_module) imports → list_any is_hook imports ≡ false
free_imports [] free = refl
free_imports (i ∷ imports) free =
    by (is_hook i) (bytes_eq-Decides i.module.bytes hook_module).0 (All-head (λ (j : Import). j.module.bytes ≢ hook_module) i imports free)
    (free_imports imports (All-tail (λ (j : Import). j.module.bytes ≢ hook_module) i imports free))
  where
    by : (b : Bool) → (b ≡ true → i.module.bytes ≡ hook_module) → i.module.bytes ≢ hook_module → list_any is_hook imports ≡ false
        → (b || list_any is_hook imports) ≡ false
    by true is other rest = absurd (other (is refl))
    by false is other rest = rest

pub free_names : (m : Module) → IsFree m → names_hooks m ≡ false
free_names m free = free_imports m.imports free

pub taken_names : (m : Module) → ¬ IsFree m → names_hooks m ≡ true
taken_names m taken = by (names_hooks m) (names_none m)
  where
    by : (b : Bool) → (b ≡ false → IsFree m) → b ≡ true
    by true free = refl
    by false free = absurd (taken (free refl))

pub test_of : (a b : ℕ) → a ≤ b → nat_le a b ≡ true
test_of a b p = grind (arith, nat_tests)

pub test_above : (a b : ℕ) → b < a → nat_le a b ≡ false
test_above a b p = grind (arith, nat_tests)

pub hooked_goes : (subject : List ℕ) (m : Module) (long bound : ℕ) (plan : Plan) → IsFree m → long ≤ bound → hooked subject m long bound plan ≡ plan
hooked_goes subject m long bound plan free short = hooked_well subject m long bound plan (free_names m free) (test_of long bound short)

module _ (subject : List ℕ) (m : Module) (long bound : ℕ) where
  -- an import names the hooks' module
  pub unhooked_taken : (refusal : Refusal) → ¬ IsFree m → IsRefusal 9 (taken_text subject) refusal → GetsNone subject m long bound refusal
  unhooked_taken refusal taken is = λ plan at tools.
      was_refused (hooked subject m long bound plan) no_output (taken_text subject) at tools refusal
      (hooked_taken subject m long bound plan (taken_names m taken)) is

  -- or the output is longer than the bound
  pub unhooked_large : (refusal : Refusal) → IsFree m → bound < long → IsRefusal 9 (too_large_text long) refusal → GetsNone subject m long bound refusal
  unhooked_large refusal free over is = λ plan at tools.
      was_refused (hooked subject m long bound plan) no_output (too_large_text long) at tools refusal
      (hooked_large subject m long bound plan (free_names m free) (test_above long bound over)) is

  pub unhooked_no_memory : GetsNone subject m long bound NoMemory
  unhooked_no_memory = λ plan at tools. no_memory (Some (hooked subject m long bound plan)) at tools

-- names make an output no shorter
pub names_lengthen : (m : Module) (hooks : Selection) (names : Names) → length (output_bytes m hooks) ≤ named_length m hooks names
names_lengthen m hooks names = omega (arith, length-append (output_bytes m hooks) (name_section_bytes (output_names m hooks names)))

-- without names it is the output alone
pub bare_output : (m : Module) (hooks : Selection) → named_output m hooks no_names ≡ output_bytes m hooks
bare_output m hooks = append-nil (output_bytes m hooks)

pub bare_length : (m : Module) (hooks : Selection) → named_length m hooks no_names ≡ output_length m hooks
bare_length m hooks = ap length (bare_output m hooks)

pub bare_made : (m : Module) (hooks : Selection) (bytes : List ℕ) (info : Info) → IsNamedMade m hooks no_names bytes info → IsMade m hooks bytes info
bare_made m hooks bytes info made = record { written = made.written ∙ bare_output m hooks; information = made.information; form = made.form }

-- ---- two files

pub wrote_both : (target output info name : List ℕ) (given : Option (List ℕ)) (old mid new : Option Contents) → given ≡ Some name
    → Wrote target output old mid → Wrote name info mid new → WroteAll (file target output ∷ info_files given info) old new
wrote_both target output info name given old mid new e first second =
    subst (λ (o : Option (List ℕ)). WroteAll (file target output ∷ info_files o info) old new) (sym e) (mid, first, (new, second, unchanged_same new))

-- what holds of any answer
pub all_ok : {A E P : Type 0} (result : Result A E) → P → OnOk result P
all_ok (Ok a) p = p
all_ok (Err e) p = tt

pub wrote_twice : (target output info name : List ℕ) (given : Option (List ℕ)) (old mid new : ShelfState) → given ≡ Some name
    → OnlyWrote 1 old mid → OnlyWrote 1 mid new → OnlyWrote (length (file target output ∷ info_files given info)) old new
wrote_twice target output info name given old mid new e first second =
    subst (λ (o : Option (List ℕ)). OnlyWrote (length (file target output ∷ info_files o info)) old new) (sym e) (write_then 1 old mid new first second)

-- the second could not be written
pub second_unwritten : (target output info name : List ℕ) (given : Option (List ℕ)) (old mid new : ShelfState) (status : ℕ) (text : List ℕ)
    → given ≡ Some name → Wrote target output old.contents mid.contents → OnlyWrote 1 old mid → PutCause name info mid new status text → OnlyWrote 1 mid new
    → FilesCause (file target output ∷ info_files given info) old new status text
second_unwritten target output info name given old mid new status text e first once why tried =
    subst (λ (o : Option (List ℕ)). FilesCause (file target output ∷ info_files o info) old new status text) (sym e) (inr (mid, once, first, inl (tried, why)))

-- ---- what came of a module

-- bytes that are not asked for are not written
same_files : (given : Option (List ℕ)) (a b : List ℕ) → (given ≢ None → a ≡ b) → info_files given a ≡ info_files given b
same_files None a b same = refl
same_files (Some name) a b same = ap (λ bytes. file name bytes ∷ []) (same (λ e. cc))

-- what a plan yields, where it is not refused
abbrev pub IsAnswered : Option Plan → (old new : ShelfState) → List ToolState → (status : Status) → (told : List ℕ) → Type 0
IsAnswered plan old new tools status told = (e : Effect) × IsCarriedOut plan old new tools tools e × (status ≡ finish_status e.finish) × (told ≡ e.text)

module _ (g : Given) (target : List ℕ) (m : Module) (hooks : Selection) (names : Names) (output info text : List ℕ) (made : IsOutputMade g m hooks names output info text) where
  files_are : (file target output ∷ info_files g.info info) ≡ (output_effect g target m hooks names).files
  files_are =
      ap (λ bytes. file target bytes ∷ info_files g.info info) made.written
      ∙ ap (λ (fs : List File). file target (named_output m hooks names) ∷ fs) (same_files g.info info (information_text m hooks) made.informs)

  abbrev written : Plan
  written = ends (does (output_effect g target m hooks names))

  goes : output_plan g target m hooks names ≡ written
  goes = hooked_goes g.subject m (named_length m hooks names) g.bound written made.free made.within

  -- it is written
  pub output_written : (old new : ShelfState) (tools : List ToolState) (status : Status) (told : List ℕ)
      → WroteAll (file target output ∷ info_files g.info info) old.contents new.contents
      → OnlyWrote (length (file target output ∷ info_files g.info info)) old new → status ≡ Done → told ≡ text
      → IsAnswered (Some (output_plan g target m hooks names)) old new tools status told
  output_written old new tools given told wrote calls status is =
      subst (λ p. IsAnswered (Some p) old new tools given told) (sym goes) (
        output_effect g target m hooks names,
        record {
          leads = refl;
          files = subst (λ fs. WroteAll fs old.contents new.contents) files_are wrote;
          mid = old;
          read = none_read old;
          wrote = subst (λ (fs : List File). OnlyWrote (length fs) old new) files_are calls;
          taken = sym (fed_none [] tools);
        },
        status,
        is ∙ made.says ∙ ap (λ (bytes : List ℕ). wrote_text (length bytes) (hook_count m hooks)) made.written,
      )

  -- or could not be
  pub output_unwritten : (old new : ShelfState) (tools : List ToolState) (refusal : Refusal)
      → FilesCause (file target output ∷ info_files g.info info) old new (refusal_status refusal) (refusal_text refusal)
      → Yields (Some (output_plan g target m hooks names)) old new tools tools (Err refusal)
  output_unwritten old new tools refusal why =
      subst (λ p. Yields (Some p) old new tools tools (Err refusal)) (sym goes)
      (unwritten (output_effect g target m hooks names) (refusal_status refusal) (refusal_text refusal) refl old (none_read old)
      (subst (λ fs. FilesCause fs old new (refusal_status refusal) (refusal_text refusal)) files_are why) (sym (fed_none [] tools)))

-- the canonical bytes of a file's module are as few as the narrow limits want
pub canonical_short : (bytes : List ℕ) (m : Module) → length bytes ≤ longest_narrow_file → Gram bytes m → length (module_bytes m) ≤ longest_narrow_file
canonical_short bytes m s g = omega (arith, module_least bytes m g, s)
