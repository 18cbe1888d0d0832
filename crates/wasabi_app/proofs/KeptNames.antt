-- What is written for a module is sound, with the names that are kept.
use Rattle.std.proofs.Common.{◌≡◌, ◌≢◌, ℕ, ◌+◌, ◌^◌, ◌<◌, ◌≤◌, ◌⊎◌, inl, inr, List, [], ◌∷◌, ◌++◌, length, Bool, true, false, All, Option, Some, None, codes, refl, sym, ap, subst, ◌∙◌, arith, append-nil, length-append}
use Rattle.std.proofs.lemmas.List.Elements.{All-nil, All-weaker}
use Rattle.leb_binary.specs.Shortest.{unsigned_bytes}
use Rattle.leb_binary.specs.Texts.{Text}
use Rattle.wasm_sem.specs.Types.{Module, Selection}
use Rattle.module_ast.specs.declared.module.Which.TheVariants.{Functions, Types}
use Rattle.module_ast.specs.Ascii.{ascii_text}
use Rattle.module_ast.specs.Binary.{module_bytes, sized_bytes, Gram, Fits, IsWithin}
use Rattle.module_ast.specs.Structure.{imported_funcs, funcs_of}
use Rattle.module_ast.proofs.LeastModules.{module_least}
use Rattle.module_ast.proofs.ReadFits.{read_fits}
use Rattle.hook_mono.specs.Needed.{needed_keys}
use Rattle.index_remap.specs.declared.Remap.{Remap}
use Rattle.index_remap.specs.Remap.{MapsIndex}
use Rattle.static_info.specs.Info.{info_of}
use Rattle.name_map.specs.declared.Locals.{Locals}
use Rattle.name_map.specs.declared.Named.{Named}
use Rattle.name_map.specs.declared.Names.{Names}
use Rattle.name_map.specs.Laws.{AreProper}
use Rattle.name_map.specs.Names.{no_names, map_names}
use Rattle.name_map.specs.Sections.{AreNames}
use Rattle.name_map.specs.Written.{content_bytes, custom_section_of, name_section_bytes, names_bytes}
use Rattle.name_map.proofs.Behind.{files_without_customs, put_keeps_module}
use Rattle.name_map.proofs.Follow.{names_follow}
use Rattle.name_map.proofs.Proper.{map_keeps_proper, read_are_proper}
use Rattle.name_map.proofs.PutRead.{put_is_read}
use Rattle.instrument.specs.Accepted.{IsAccepted}
use Rattle.instrument.specs.Output.{hook_remap, output, output_bytes}
use Rattle.instrument.specs.Made.{IsSound}
use Rattle.instrument.specs.Shell.{with_customs}
use Rattle.instrument.proofs.Customs.{valid_same, within_same, customs_same, shell_same}
use Rattle.instrument.proofs.OutputNeeds.{needed_count}
use Rattle.instrument.proofs.OutputRules.{funcs_counted, output_is_valid}
use Rattle.instrument.proofs.OutputSame.{same}
use Rattle.instrument.proofs.OutputShell.{output_has_shell}
use Rattle.instrument.proofs.OutputSpelled.{output_is_spelled}
use Rattle.instrument.proofs.OutputWithin.{output_is_within}
use Rattle.module_ast.specs.Validation.{narrow, wide, longest_file, longest_narrow_file}
use Rattle.app_load.specs.Wants.{AreKept}
use Rattle.wasabi_app.specs.KeptNames.{CarriesNames, DroppedNamesLeaveNothing, HasNameSection, named_output, output_names}

-- ---- whether there are names

abbrev all_names : Option Text → List Named → List Locals → Names
all_names m fs ls = record { «module» = m; functions = fs; locals = ls }

named_or_not : (r : Remap) (names : Names) → (names ≡ no_names) ⊎ ((names ≢ no_names) × (map_names r names ≢ no_names))
named_or_not r names = by names.module names.functions names.locals
  where
    by : (m : Option Text) (fs : List Named) (ls : List Locals)
        → (all_names m fs ls ≡ no_names) ⊎ ((all_names m fs ls ≢ no_names) × (map_names r (all_names m fs ls) ≢ no_names))
    by None [] [] = inl refl
    by (Some t) fs ls =
        inr (λ e. (let k : Some t ≡ None = ap (λ (n : Names). n.module) e in cc), λ e. (let k : Some t ≡ None = ap (λ (n : Names). n.module) e in cc))
    by None (f ∷ fs) ls =
        inr (λ e. (let k = ap (λ (n : Names). n.functions) e in cc), λ e. (let k = ap (λ (n : Names). n.functions) e in cc))
    by None [] (l ∷ ls) =
        inr (λ e. (let k = ap (λ (n : Names). n.locals) e in cc), λ e. (let k = ap (λ (n : Names). n.locals) e in cc))

-- their indices in the output have 32 bits
pub few_mapped : (m : Module) (hooks : Selection) → IsWithin narrow m → length (funcs_of m) + length (needed_keys m hooks) < 2 ^ 32
few_mapped m hooks within =
    omega (arith, (within Functions).0, (within Types).0, needed_count m hooks, length-append (imported_funcs m.imports) m.funcs)

pub maps_below : {A : Type 0} (index : A → ℕ) (r : Remap) (count : ℕ) (xs : List A) → All (λ x. index x < count) xs → count + r.added < 2 ^ 32
    → All (λ x. MapsIndex r (index x)) xs
maps_below index r count xs all few =
    All-weaker (λ x. index x < count) (λ x. MapsIndex r (index x)) (λ x l within. omega (arith, l, few)) xs all

-- those that are kept are of functions that the module has
none_proper : (count : ℕ) → AreProper count no_names
none_proper count = record {
  order = refl;
  below = All-nil _;
  owner_order = refl;
  owners_below = All-nil _;
  inner = All-nil _;
}

pub kept_proper : (keeps : Bool) (file : List ℕ) (m : Module) (names : Names) → AreKept keeps file m names → AreProper (length (funcs_of m)) names
kept_proper false file m names k = subst (AreProper (length (funcs_of m))) (sym k) (none_proper (length (funcs_of m)))
kept_proper true file m names k = read_are_proper file (length (funcs_of m)) names k

-- a section is no shorter than what it holds
content_short : (names : Names) (most : ℕ) → 5 ≤ most → length (name_section_bytes names) ≤ most → length (content_bytes names) ≤ most
content_short names most least short = by (names_bytes names) short
  where
    by : (bs : List ℕ) → length (custom_section_of bs) ≤ most → length (sized_bytes (codes "name") ++ bs) ≤ most
    by [] h = least
    by (b ∷ bs) h =
        let content = sized_bytes (codes "name") ++ b ∷ bs in
        omega (arith, h, length-append (unsigned_bytes (length content)) content)

-- ---- the output with names

abbrev name_text : Text
name_text = ascii_text (codes "name") refl

module _ (file : List ℕ) (m : Module) (hooks : Selection) (keeps : Bool) (names : Names) (accepted : IsAccepted file m) (short : length file ≤ longest_narrow_file)
    (kept : AreKept keeps file m names) (few : length (named_output m hooks names) ≤ longest_file) where
  small : length (module_bytes m) < 2 ^ 31
  small = omega (arith, short, module_least file m accepted.spelled)

  bare_few : length (output_bytes m hooks) ≤ longest_file
  bare_few = omega (arith, few, length-append (output_bytes m hooks) (name_section_bytes (output_names m hooks names)))

  fits : Fits m
  fits = read_fits file m accepted.spelled (omega (arith, short))

  bare : Gram (output_bytes m hooks) (output m hooks)
  bare = output_is_spelled m hooks accepted.valid accepted.limits fits small (omega (arith, bare_few))

  -- what is carried
  funcs_of_output : length (funcs_of m) + length (needed_keys m hooks) ≡ length (funcs_of (output m hooks))
  funcs_of_output =
      omega (arith, funcs_counted m hooks (needed_keys m hooks), length-append (imported_funcs m.imports) m.funcs)

  few_funcs : length (funcs_of (output m hooks)) ≤ 2 ^ 32
  few_funcs = let within = (output_is_within m hooks accepted.valid accepted.limits Functions).0 in omega (arith, within)

  carries : AreNames (named_output m hooks names) (length (funcs_of (output m hooks))) (output_names m hooks names)
  carries =
      let remap = hook_remap m (needed_keys m hooks) in
      let section = name_section_bytes (output_names m hooks names) in
      let whole : length section ≤ longest_file = omega (arith, few, length-append (output_bytes m hooks) section) in
      let content = content_short (output_names m hooks names) longest_file (omega arith) whole in
      put_is_read (output_bytes m hooks) (length (funcs_of (output m hooks))) (output_names m hooks names)
      (files_without_customs (output_bytes m hooks) (output m hooks) bare refl) few_funcs
      (subst (λ n. AreProper n (output_names m hooks names)) funcs_of_output
      (map_keeps_proper remap (length (funcs_of m)) names (kept_proper keeps file m names kept)))
      (omega (arith, content))

  content_few : length (content_bytes (output_names m hooks names)) < 2 ^ 32
  content_few =
      let section = name_section_bytes (output_names m hooks names) in
      let whole : length section ≤ longest_file = omega (arith, few, length-append (output_bytes m hooks) section) in
      let content = content_short (output_names m hooks names) longest_file (omega arith) whole in
      omega (arith, content)

  -- the custom sections of what is written
  with_names : (customs : List Text) × Gram (named_output m hooks names) (with_customs customs (output m hooks)) × HasNameSection names customs
  with_names = by (named_or_not (hook_remap m (needed_keys m hooks)) names)
    where
      by : (names ≡ no_names) ⊎ ((names ≢ no_names) × (output_names m hooks names ≢ no_names))
          → (customs : List Text) × Gram (named_output m hooks names) (with_customs customs (output m hooks)) × HasNameSection names customs
      by (inl none) =
          let plain : output_bytes m hooks ≡ named_output m hooks names =
          sym (append-nil (output_bytes m hooks)) ∙ ap (named_output m hooks) (sym none) in
          ([], subst (λ bytes. Gram bytes (output m hooks)) plain bare, inl (none, refl))
      by (inr (some, there)) = (
        name_text ∷ [],
        put_keeps_module (output_bytes m hooks) (output m hooks) (output_names m hooks names) name_text refl there bare content_few,
        inr (some, (name_text, refl, refl)),
      )

  -- it is sound, and carries the names
  pub written_sound : (sound : IsSound (info_of m hooks) m hooks (named_output m hooks names))
      × CarriesNames names (hook_remap m (needed_keys m hooks)) (named_output m hooks names) sound.result
  written_sound =
      let (customs, spelled, has) = with_names in (
        record {
          short = few;
          result = with_customs customs (output m hooks);
          spelled = spelled;
          limits = within_same wide customs (output m hooks) (output_is_within m hooks accepted.valid accepted.limits);
          valid = valid_same customs (output m hooks) (output_is_valid m hooks accepted.valid);
          shell = shell_same customs (info_of m hooks) m (output m hooks) (output_has_shell m hooks accepted.valid fits.counts);
          same = customs_same customs (info_of m hooks) m hooks (output m hooks) (same m hooks accepted.valid accepted.limits small fits accepted.free);
        },
        record { customs = has; carries = carries; follow = names_follow (hook_remap m (needed_keys m hooks)) names },
      )

-- where names are dropped, it is the output alone
customs_none : (names : Names) (customs : List Text) → names ≡ no_names → HasNameSection names customs → customs ≡ []
customs_none names customs none (inl is) = is.1
customs_none names customs none (inr some) = absurd (some.0 none)

pub dropped_names : DroppedNamesLeaveNothing
dropped_names file hooks written is = record {
  original = is.original;
  accepted = is.accepted;
  output = is.output ∙ ap (named_output is.original hooks) is.kept ∙ append-nil (output_bytes is.original hooks);
  sound = record { sound = is.sound; bare = customs_none is.names is.sound.result.customs is.kept is.named.customs };
}
