-- The warnings on an output are those of the original's run with marks.
use Rattle.std.proofs.Common.{◌≡◌, ℕ, zero, suc, ◌+◌, ◌<◌, ◌≤◌, List, [], ◌∷◌, ◌++◌, length, Option, Some, None, Bool, true, false, nat_le, refl, sym, ap, subst, ◌∙◌, arith, add-one, append_assoc}
use Rattle.std.proofs.lemmas.Bool.Decides.{nat_tests}
use Rattle.outside_io.specs.Outside.{Contents}
use Rattle.wasm_sem.specs.Types.{Module, GroupName}
use Rattle.module_ast.specs.Binary.{Gram, IsWithin}
use Rattle.module_ast.specs.Validation.{narrow, IsValid, longest_file, longest_narrow_file}
use Rattle.module_ast.proofs.LeastModules.{module_least}
use Rattle.module_ast.proofs.ReadFits.{read_fits}
use Rattle.hook_select.specs.declared.GroupName.TheVariants as groups
use Rattle.hook_select.specs.Groups.{has}
use Rattle.wasm_sem.specs.declared.Script.{Script}
use Rattle.wasm_sem.specs.Execution.{TraceItem, instance, link, IsFree, IsScriptInRange, Links, opening_configuration, run_of, items, trace, trace_of, most_slots, host_calls}
use Rattle.wasm_sem.specs.Laws.{slots_in}
use Rattle.wasm_sem.specs.Link as linking
use Rattle.wasm_sem.proofs.AllChosen.{all_groups_keep}
use Rattle.wasm_sem.proofs.Runs.{trace_add}
use Rattle.wasm_sem.proofs.SoundRead.{read_complete}
use Rattle.wasm_sem.proofs.SoundEntries.{can_link}
use Rattle.wasm_sem.proofs.HostCounts.{calls-append, hosts_counted}
use Rattle.run_session.proofs.InRange.{script_in_range}
use Rattle.static_info.specs.Info.{info_of}
use Rattle.static_info.specs.Items.{read}
use Rattle.shadow_replay.specs.Laws.{tainted_shadow_after, FollowsTagged}
use Rattle.shadow_replay.specs.Opened.{opening_replay}
use Rattle.shadow_replay.specs.Taint.{Watch}
use Rattle.shadow_replay.specs.Tainted.{TaintedShadow}
use Rattle.shadow_replay.proofs.Shadows.{shadows_follow, warnings_follow}
use Rattle.instrument.specs.Output.{output}
use Rattle.instrument.specs.Same.{IsPrefix, SameRuns}
use Rattle.instrument.proofs.OutputSame.{same}
use Rattle.app_load.specs.Plans.{Effect, does, LeadsTo, Plan, prints}
use Rattle.shadow_replay.specs.Items.{AreFitFor}
use Rattle.app_runs.specs.Reporting.{items_told}
use Rattle.app_runs.specs.Watching.{import_names}
use Rattle.wasabi_app.specs.Making.{output_length}
use Rattle.wasabi_app.specs.Playing.{ending_finish, linked}
use Rattle.wasabi_app.specs.Tagging.{hosts_made, warned_by, AreTagged, WarningsAreTagged, TaintsTell}
use Rattle.wasabi_app.specs.Tainting.{warnings_in, warnings_told}
use Rattle.wasabi_app.specs.Warning.{IsFollowable}
use Rattle.wasabi_app.specs.Modes.Taint.{watch_of, unknown_in, known, taint_text, warned_plan}
use Rattle.wasabi_app.specs.Modes.Trial.{all_hooks}
use Rattle.app_runs.proofs.StepEvents.{trace_next}
use Rattle.wasabi_app.proofs.Composed.{slots_of_env}
use Rattle.instrument.proofs.Hosts.{read_hosts, hosts_there}
use Rattle.wasabi_app.proofs.Modes.Instrument.{hooked_leads}
use Rattle.wasabi_app.proofs.Warned.{front_some, warned_more, warned_alike}

-- all groups are selected
all_selected : (g : GroupName) → has all_hooks.groups g ≡ true
all_selected groups.Start = refl
all_selected _ = refl

-- ---- a module and its output with all hooks

module _ (m : Module) (is : IsFollowable m) (free : IsFree m) (s : Script) (range : IsScriptInRange s) (links : Links m s) where
  abbrev o : Module
  o = output m all_hooks

  abbrev told : ℕ → List TraceItem
  told k = items_told (info_of m all_hooks) o s k

  runs_alike : SameRuns m all_hooks o s
  runs_alike = (same m all_hooks is.valid is.limits (omega (arith, is.short)) is.fits free).runs s range.writes (can_link m s links)

  -- what is told is the beginning of the original's trace
  told_begins : (k : ℕ) → IsPrefix (told k) (trace_of m s k)
  told_begins k =
      let (rest, whole) = runs_alike.prefix k in (
        rest,
        ap (λ slots. read (info_of m all_hooks) slots (trace_of o s k) ++ rest) (slots_of_env (run_of o s k)) ∙ whole
            ∙ all_groups_keep m s (has all_hooks.groups) free all_selected k,
      )

  -- so it is fit for a shadow of the original
  pub told_fit : (w : Watch) (k : ℕ) → AreFitFor (opening_replay m s w) (told k)
  told_fit w k before behind i at =
      let (rest, whole) = told_begins k in
      (shadows_follow m s is.valid is.complete free range links k).1 before (behind ++ rest) i
      (sym whole ∙ ap (λ l. l ++ rest) at ∙ append_assoc before (i ∷ behind) rest)

  -- and has the host calls that the output makes
  told_count : (k : ℕ) → host_calls (told k) ≡ hosts_made o s k
  told_count k = read_hosts (info_of m all_hooks) (slots_in (run_of o s k)) (trace_of o s k) ∙ sym (hosts_counted o s k).0

  -- ---- a moment with as many host calls

  next_count : (n : ℕ) → host_calls (trace_of m s (suc n)) ≡ host_calls (trace_of m s n) + host_calls (items (instance m s) (run_of m s n))
  next_count n =
      ap (λ k. host_calls (trace_of m s k)) (sym (add-one n)) ∙ ap host_calls (trace_next m s n)
      ∙ calls-append (trace_of m s n) (items (instance m s) (run_of m s n))

  reaches : (n h : ℕ) → h ≤ host_calls (trace_of m s n) → (k : ℕ) × (k ≤ n) × (host_calls (trace_of m s k) ≡ h)
  reaches zero h few =
      let none : host_calls (trace_of m s 0) ≡ 0 = refl in
      (0, omega arith, omega (arith, few, none))
  reaches (suc n) h few = by (nat_le h (host_calls (trace_of m s n))) refl (λ p. reaches n h p)
    where
      by : (b : Bool) → nat_le h (host_calls (trace_of m s n)) ≡ b
          → (h ≤ host_calls (trace_of m s n) → (k : ℕ) × (k ≤ n) × (host_calls (trace_of m s k) ≡ h))
          → (k : ℕ) × (k ≤ suc n) × (host_calls (trace_of m s k) ≡ h)
      by true e sooner =
          let (k, within, at) = sooner (grind (arith, nat_tests, e)) in
          (k, omega (arith, within), at)
      by false e sooner =
          let above : host_calls (trace_of m s n) < h = grind (arith, nat_tests, e) in
          (suc n, omega arith, omega (arith, few, above, next_count n, (hosts_counted m s n).1))

  -- ---- the warnings

  module _ (w : Watch) where
    after : (n : ℕ) → FollowsTagged m s w n
    after n = warnings_follow m s is.valid is.complete free range links w n

    -- what a shadow makes of what is told
    record Told : Type 0 where
      shadow : TaintedShadow
      at : tainted_shadow_after m s w (told s.steps) ≡ Some shadow
      rest : List TraceItem
      whole : told s.steps ++ rest ≡ trace_of m s s.steps
      later : IsPrefix shadow.marks.taint.warnings (warned_by m s w s.steps)

    shadow_told : Told
    shadow_told =
        let begins = told_begins s.steps in
        let end = after s.steps in
        let r = opening_replay m s w in
        let (c, at, more) = front_some m r.limit w (told s.steps) begins.0 r.shadow end.shadow (ap (tainted_shadow_after m s w) begins.1 ∙ end.is) in
        record {
          shadow = c;
          at = at;
          rest = begins.0;
          whole = begins.1;
          later = subst (IsPrefix c.marks.taint.warnings) end.warnings (warned_more m r.limit w begins.0 c end.shadow more);
        }

    warnings_are : warnings_told m w s ≡ shadow_told.shadow.marks.taint.warnings
    warnings_are = ap warnings_in shadow_told.at

    warned_at : (n : ℕ) → hosts_made m s n ≡ hosts_made o s s.steps → warnings_told m w s ≡ warned_by m s w n
    warned_at n same =
        let r = opening_replay m s w in
        let there = after n in
        let t = shadow_told in
        let further = trace (instance m s) s.steps (run_of m s n) in
        let more = trace (instance m s) n (run_of m s s.steps) in
        let swapped : n + s.steps ≡ s.steps + n = omega arith in
        let whole : told s.steps ++ (t.rest ++ more) ≡ trace_of m s n ++ further =
        sym (append_assoc (told s.steps) t.rest more) ∙ ap (λ l. l ++ more) t.whole
        ∙ sym (trace_add (instance m s) s.steps n (opening_configuration m s)) ∙ ap (trace_of m s) (sym swapped)
        ∙ trace_add (instance m s) n s.steps (opening_configuration m s) in
        let counts : host_calls (told s.steps) ≡ host_calls (trace_of m s n) = told_count s.steps ∙ sym same ∙ (hosts_counted m s n).0 in
        warnings_are
        ∙ warned_alike m r.limit w (told s.steps) (trace_of m s n) (t.rest ++ more) further r.shadow t.shadow there.shadow whole counts t.at there.is
        ∙ there.warnings

    pub tagged_warnings : AreTagged m o w s (warnings_told m w s)
    tagged_warnings =
        let t = shadow_told in
        let whole = calls-append (told s.steps) t.rest in
        let few : host_calls (told s.steps) ≤ host_calls (trace_of m s s.steps) = omega (arith, whole, ap host_calls t.whole) in
        let (n, within, at) = reaches s.steps (host_calls (told s.steps)) few in
        record {
          reached = (n, within, (hosts_counted m s n).0 ∙ at ∙ told_count s.steps);
          warned = warned_at;
          begun = subst (λ ws. IsPrefix ws (warned_by m s w s.steps)) (sym warnings_are) t.later;
          whole = λ over.
              let match = (runs_alike.ends s.steps over).1 in
              let hosts : hosts_made m s s.steps ≡ hosts_made o s s.steps =
              hosts_there (run_of m s s.steps) ∙ sym (ap (λ st. st.hosts) match.store) ∙ sym (hosts_there (run_of o s s.steps)) in
              warned_at s.steps hosts;
        }

-- ---- accepted files, and the plan

pub followable : (file : List ℕ) (m : Module) → IsValid m → IsWithin narrow m → length file ≤ longest_narrow_file → Gram file m → IsFollowable m
followable file m valid limits short spelled = record {
  valid = valid;
  complete = read_complete file m spelled;
  limits = limits;
  fits = read_fits file m spelled (omega (arith, short));
  short = omega (arith, short, module_least file m spelled);
}

pub warnings_are_tagged : WarningsAreTagged
warnings_are_tagged file m accepted short w s range links =
    tagged_warnings m (followable file m accepted.valid accepted.limits short accepted.spelled) accepted.free s range links w

known_leads : (held : Option Contents) (unknown : Option (List ℕ)) (plan : Plan) (e : Effect) → LeadsTo held (known unknown plan) (does e)
    → LeadsTo held plan (does e)
known_leads held None plan e k = k
known_leads held (Some name) plan e k = cc

pub played_leads : (held : Option Contents) (s : Script) (o : Option linking.Refusal) (plan : Plan) (e : Effect) → LeadsTo held (linked s o plan) (does e)
    → (o ≡ None) × LeadsTo held plan (does e)
played_leads held s None plan e k = (refl, k)
played_leads held s (Some why) plan e k = cc

pub taints_tell : TaintsTell
taints_tell held g script_name e (m, there, leads) =
    let plan = warned_plan script_name (watch_of g m) m in
    let gets = hooked_leads held g.subject m (output_length m all_hooks) longest_file plan e (known_leads held (unknown_in g (import_names m.imports)) _ e leads) in
    let (fit, valid) = there.spelled in
    let is = followable there.bytes m valid fit.within there.read_well.short fit.spelled in
    let (s, script_there, ran) = gets.2 in
    let (d, _, spelled) = script_there.spelled in
    let range = script_in_range d s spelled in
    let o = output m all_hooks in
    let (links, printed) = played_leads held s (link o s) _ e ran in
    let both : Links m s = sym ((same m all_hooks is.valid is.limits (omega (arith, is.short)) is.fits gets.0).links most_slots s) ∙ links in
    let w = watch_of g m in
    let effect : prints (taint_text w m s) (ending_finish o s) ≡ e = cc in
    record {
      original = m;
      script = s;
      subject = there;
      run_by = script_there;
      warnings = warnings_told m w s;
      tagged = tagged_warnings m is gets.0 s range both w;
      text = ap (λ (x : Effect). x.text) (sym effect);
    }
