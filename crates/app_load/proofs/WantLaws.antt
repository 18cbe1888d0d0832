-- Bytes are one thing alone: what they must be, or nothing of the kind, for one status.
use Rattle.std.proofs.Common.{◌≡◌, ◌∙◌, ℕ, ◌⊎◌, inl, inr, List, Bool, true, false, length, refl, sym, ap, ap₂, subst}
use Rattle.wasm_sem.specs.Types.{Limits, Module}
use Rattle.module_ast.specs.Structure.{funcs_of}
use Rattle.module_ast.specs.Validation.{IsValid}
use Rattle.name_map.specs.declared.Names.{Names}
use Rattle.name_map.proofs.OneNames.{names_are_one}
use Rattle.static_info.specs.declared.Info.{Info}
use Rattle.static_info.specs.Json.{HoldInfo}
use Rattle.static_info.specs.Belongs.{Belongs}
use Rattle.trace_file.proofs.Whole.{one_list}
use Rattle.app_load.specs.Files.{IsFit, IsNoScript}
use Rattle.app_load.proofs.Files.{fault_no_module, one_module, fit_not_unfit, unfit_not_malformed, fit_not_malformed, valid_not_invalid, broken_invalid, body_invalid}
use Rattle.app_load.proofs.Scripts.{one_script, no_text_no_script, wrong_no_script}
use Rattle.app_load.proofs.Infos.{one_info, no_text_no_info, other_no_info}
use Rattle.app_load.specs.Wants.{Content, IsNoFile, malformed, unfit, invalid, RefutesFile, is_malformed, has_floats, over_limit, broken_rule, invalid_body, module_content, AreKept, named_content, RefutesScript, not_json, wrong_script, script_content, RefutesInfo, info_not_json, not_info, foreign, info_content, trace_content, Want, a_module, a_named_module, a_script, info_on, a_trace, content}
use Rattle.app_load.specs.Statuses.{class_of, of_bytes, of_scripts}

-- bytes spell one value, or are wrong for one status, which is one of bytes or of scripts; and what is told of bytes makes
-- them wrong
pub record Laws (c : Content) : Type 0 where
  pub one_value : (bytes : List ℕ) (a b : c.Value) → c.Spell bytes a → c.Spell bytes b → a ≡ b
  pub not_wrong : (bytes : List ℕ) (value : c.Value) (status : ℕ) → c.Spell bytes value → c.IsWrong bytes status → ⊥
  pub one_wrong : (bytes : List ℕ) (a b : ℕ) → c.IsWrong bytes a → c.IsWrong bytes b → a ≡ b
  pub wrong_class : (bytes : List ℕ) (status : ℕ) → c.IsWrong bytes status → (class_of status ≡ of_bytes) ⊎ (class_of status ≡ of_scripts)
  pub refuted_wrong : (name bytes : List ℕ) (status : ℕ) (text : List ℕ) → c.Refutes name bytes status text → c.IsWrong bytes status

-- ---- a module

not_no_file : (limits : Limits) (bytes : List ℕ) (m : Module) (status : ℕ) → IsFit limits bytes m → IsValid m → IsNoFile limits bytes status → ⊥
not_no_file limits bytes m _ fit valid (malformed n) = fit_not_malformed limits bytes m fit n
not_no_file limits bytes m _ fit valid (unfit u) = fit_not_unfit limits bytes m fit u
not_no_file limits bytes m _ fit valid (invalid n) = valid_not_invalid limits bytes m fit valid n

one_fault : (limits : Limits) (bytes : List ℕ) (a b : ℕ) → IsNoFile limits bytes a → IsNoFile limits bytes b → a ≡ b
one_fault limits bytes _ _ (malformed p) (unfit q) = absurd (unfit_not_malformed limits bytes q p)
one_fault limits bytes _ _ (malformed p) (invalid q) = absurd (fit_not_malformed limits bytes q.0 q.1 p)
one_fault limits bytes _ _ (unfit p) (malformed q) = absurd (unfit_not_malformed limits bytes p q)
one_fault limits bytes _ _ (unfit p) (invalid q) = absurd (fit_not_unfit limits bytes q.0 q.1 p)
one_fault limits bytes _ _ (invalid p) (malformed q) = absurd (fit_not_malformed limits bytes p.0 p.1 q)
one_fault limits bytes _ _ (invalid p) (unfit q) = absurd (fit_not_unfit limits bytes p.0 p.1 q)
one_fault limits bytes _ _ p q = refl

file_class : (limits : Limits) (bytes : List ℕ) (status : ℕ) → IsNoFile limits bytes status → class_of status ≡ of_bytes
file_class limits bytes _ (malformed p) = refl
file_class limits bytes _ w = refl

refuted_file : (limits : Limits) (name bytes : List ℕ) (status : ℕ) (text : List ℕ) → RefutesFile name limits bytes status text
    → IsNoFile limits bytes status
refuted_file limits name bytes _ _ (is_malformed k f) = malformed (fault_no_module bytes k f)
refuted_file limits name bytes _ _ (has_floats k f) = unfit (inl (k, f))
refuted_file limits name bytes _ _ (over_limit w v f) = unfit (inr (w, v, f))
refuted_file limits name bytes _ _ (broken_rule m r f b) = invalid (m, f, broken_invalid m r b)
refuted_file limits name bytes _ _ (invalid_body m k f b) = invalid (m, f, body_invalid m k b)

module_laws : (limits : Limits) → Laws (module_content limits)
module_laws limits = record {
  one_value = λ bytes a b p q. one_module bytes a b p.0.spelled q.0.spelled;
  not_wrong = λ bytes m status p. not_no_file limits bytes m status p.0 p.1;
  one_wrong = one_fault limits;
  wrong_class = λ bytes status w. inl (file_class limits bytes status w);
  refuted_wrong = refuted_file limits;
}

-- a file carries one value of names
one_kept : (keeps : Bool) (bytes : List ℕ) (m : Module) (a b : Names) → AreKept keeps bytes m a → AreKept keeps bytes m b → a ≡ b
one_kept false bytes m a b p q = p ∙ sym q
one_kept true bytes m a b p q = names_are_one bytes (length (funcs_of m)) a b p q

one_named : (keeps : Bool) (bytes : List ℕ) (a b : Module × Names) → a.0 ≡ b.0 → AreKept keeps bytes a.0 a.1 → AreKept keeps bytes b.0 b.1 → a ≡ b
one_named keeps bytes a b same p q =
    ap₂ (λ (m : Module) (names : Names). (m, names)) same (one_kept keeps bytes b.0 a.1 b.1 (subst (λ m. AreKept keeps bytes m a.1) same p) q)

named_laws : (limits : Limits) (keeps : Bool) → Laws (named_content limits keeps)
named_laws limits keeps = record {
  one_value = λ bytes a b p q. one_named keeps bytes a b (one_module bytes a.0 b.0 p.0.spelled q.0.spelled) p.2 q.2;
  not_wrong = λ bytes named status p. not_no_file limits bytes named.0 status p.0 p.1;
  one_wrong = one_fault limits;
  wrong_class = λ bytes status w. inl (file_class limits bytes status w);
  refuted_wrong = refuted_file limits;
}

-- ---- a script

refuted_script : (bytes text : List ℕ) → RefutesScript bytes text → IsNoScript bytes
refuted_script bytes _ (not_json n) = no_text_no_script bytes n
refuted_script bytes _ (wrong_script d place t w) = wrong_no_script bytes d place t w

script_laws : Laws script_content
script_laws = record {
  one_value = one_script;
  not_wrong = λ bytes s status p w. w.1 s p;
  one_wrong = λ bytes a b p q. p.0 ∙ sym q.0;
  wrong_class = λ bytes status w. inr (ap class_of w.0);
  refuted_wrong = λ name bytes status text r. (r.0, refuted_script bytes text r.1);
}

-- ---- information

not_uninformed : (m : Module) (bytes : List ℕ) (info : Info) (text : List ℕ) → HoldInfo bytes info → Belongs info m → RefutesInfo m bytes text → ⊥
not_uninformed m bytes info _ held belongs (info_not_json n) = no_text_no_info bytes info n held
not_uninformed m bytes info _ held belongs (not_info n) = other_no_info bytes info n held
not_uninformed m bytes info _ held belongs (foreign other h n) = n (subst (λ (x : Info). Belongs x m) (one_info bytes info other held h) belongs)

info_laws : (m : Module) → Laws (info_content m)
info_laws m = record {
  one_value = λ bytes a b p q. one_info bytes a b p.0 q.0;
  not_wrong = λ bytes info status p w. not_uninformed m bytes info w.1 p.0 p.1 w.2;
  one_wrong = λ bytes a b p q. p.0 ∙ sym q.0;
  wrong_class = λ bytes status w. inl (ap class_of w.0);
  refuted_wrong = λ name bytes status text r. (r.0, text, r.1);
}

-- ---- a trace

trace_laws : Laws trace_content
trace_laws = record {
  one_value = one_list;
  not_wrong = λ bytes es status p w. w.1 es p;
  one_wrong = λ bytes a b p q. p.0 ∙ sym q.0;
  wrong_class = λ bytes status w. inl (ap class_of w.0);
  refuted_wrong = λ name bytes status text r. (r.0, r.2);
}

-- ---- what is wanted

pub laws : (want : Want) → Laws (content want)
laws (a_module limits) = module_laws limits
laws (a_named_module limits keeps) = named_laws limits keeps
laws a_script = script_laws
laws (info_on m) = info_laws m
laws a_trace = trace_laws
