-- Names of custom sections change nothing of what a module is and does.
use Rattle.std.proofs.Common.{◌≡◌, ◌≤◌, ◌<◌, ℕ, suc, nat_le, List, [], ◌∷◌, Option, Some, None, refl, sym, ap, subst, ◌∙◌, IfSome, slice_get}
use Rattle.std.specs.List.{AllZip}
use Rattle.std.proofs.lemmas.List.Elements.{All-weaker}
use Rattle.wasm_sem.specs.Types.{Export, ExportKind, FuncType, Limits, Module, Selection, HookKey}
use Rattle.module_ast.specs.declared.module.ExportKind.TheVariants.{Func, Table, Memory, Global}
use Rattle.module_ast.specs.declared.module.Which.TheVariants.{Functions, Types, Parameters, Locals, Nesting}
use Rattle.module_ast.specs.Validation.{wide, ValidityRule, export_indices, start_type, func_type, count_of, Keeps, KeepsRules, IsValid}
use Rattle.module_ast.specs.Binary.{IsWithin}
use Rattle.module_ast.specs.Structure.{funcs_of, memories_of, tables_of}
use Rattle.module_ast.specs.Texts.{Text}
use Rattle.wasm_sem.specs.declared.Call.{Call}
use Rattle.wasm_sem.specs.declared.Script.{Script}
use Rattle.wasm_sem.specs.Execution.{Refusal, call_refusal, calls_refusal, callees_of, exported_func, first_refusal, fit_all, func_at, least_size, link_within, memory_cap, refusal_unless, segment_range, table_cap}
use Rattle.static_info.specs.Belongs.{FuncImport, func_imports, IsHook}
use Rattle.instrument.specs.Laws.{CustomsChangeNothing}
use Rattle.static_info.specs.declared.Info.{Info}
use Rattle.instrument.specs.Same.{SameBy, SameRunsBy, IsPartOf}
use Rattle.static_info.specs.Info.{info_of}
use Rattle.instrument.specs.Shell.{HasShell, with_customs}

-- ---- validity

count_same : (customs : List Text) (m : Module) (kind : ExportKind) → count_of (with_customs customs m) kind ≡ count_of m kind
count_same customs m Func = refl
count_same customs m Table = refl
count_same customs m Memory = refl
count_same customs m Global = refl

type_same : (customs : List Text) (m : Module) (f : ℕ) → func_type (with_customs customs m) f ≡ func_type m f
type_same customs m f = by (slice_get (funcs_of m) f) refl
  where
    by : (o : Option ℕ) → slice_get (funcs_of m) f ≡ o → func_type (with_customs customs m) f ≡ func_type m f
    by None e = rw e refl
    by (Some x) e = rw e refl

start_same : (customs : List Text) (m : Module) (t : FuncType) (start : Option ℕ) → IfSome start (λ f. func_type m f ≡ Some t)
    → IfSome start (λ f. func_type (with_customs customs m) f ≡ Some t)
start_same customs m t None k = tt
start_same customs m t (Some f) k = type_same customs m f ∙ k

rules_same : (customs : List Text) (m : Module) → KeepsRules m → KeepsRules (with_customs customs m)
rules_same customs m rules rule = by rule (rules rule)
  where
    by : (r : ValidityRule) → Keeps m r → Keeps (with_customs customs m) r
    by export_indices k =
        All-weaker (λ (e : Export). e.index < count_of m e.kind) (λ (e : Export). e.index < count_of (with_customs customs m) e.kind)
        (λ e l. subst (λ n. e.index < n) (sym (count_same customs m e.kind)) l) m.exports k
    by start_type k = start_same customs m (record { params = []; results = [] }) m.start k
    by r k = k

pub valid_same : (customs : List Text) (m : Module) → IsValid m → IsValid (with_customs customs m)
valid_same customs m valid = record { rules = rules_same customs m valid.rules; bodies = valid.bodies }

pub within_same : (limits : Limits) (customs : List Text) (m : Module) → IsWithin limits m → IsWithin limits (with_customs customs m)
within_same limits customs m within Functions = within Functions
within_same limits customs m within Types = within Types
within_same limits customs m within Parameters = within Parameters
within_same limits customs m within Locals = within Locals
within_same limits customs m within Nesting = within Nesting

-- ---- hooks

hook_same : (customs : List Text) (m : Module) (f : FuncImport) (key : HookKey) → IsHook m f key → IsHook (with_customs customs m) f key
hook_same customs m f key is = record { from = is.from; name = is.name; ty = is.ty }

pub hooks_same : (customs : List Text) (m : Module) (fs : List FuncImport) (keys : List HookKey) → AllZip (IsHook m) fs keys
    → AllZip (IsHook (with_customs customs m)) fs keys
hooks_same customs m [] [] h = tt
hooks_same customs m [] (k ∷ ks) h = absurd h
hooks_same customs m (f ∷ fs) [] h = absurd h
hooks_same customs m (f ∷ fs) (k ∷ ks) h = (hook_same customs m f k h.0, hooks_same customs m fs ks h.1)

-- ---- runs

calls_same : (customs : List Text) (m : Module) (n : ℕ) (cs : List Call) → calls_refusal (with_customs customs m) n cs ≡ calls_refusal m n cs
calls_same customs m n [] = refl
calls_same customs m n (c ∷ cs) =
    ap (first_refusal (call_refusal n c.args (func_at (callees_of m) (exported_func c.export.bytes m.exports)))) (calls_same customs m (suc n) cs)

pub link_same : (customs : List Text) (m : Module) (slots : ℕ) (s : Script) → link_within slots (with_customs customs m) s ≡ link_within slots m s
link_same customs m slots s = ap (λ (first : Option Refusal). first_refusal first later) (calls_same customs m 0 s.calls)
  where
    later : Option Refusal
    later =
        first_refusal (refusal_unless (nat_le (least_size (memories_of m)) s.pages) (memory_cap (least_size (memories_of m))))
        (first_refusal (refusal_unless (nat_le (least_size (tables_of m)) slots) (table_cap (least_size (tables_of m))))
        (refusal_unless (fit_all m s) segment_range))

part_same : (customs : List Text) (info : Info) (m : Module) (hooks : Selection) (o : Module) (s : Script) (k : ℕ) → (n : ℕ) × (n ≤ k) × IsPartOf info m hooks o s n k → (n : ℕ) × (n ≤ k) × IsPartOf info m hooks (with_customs customs o) s n k
part_same customs info m hooks o s k p =
    let x = p.2 in
    (p.0, p.1, record { front = x.front; back = x.back; before = x.before; now = x.now; store = x.store; host = x.host })

pub runs_same : (customs : List Text) (info : Info) (m : Module) (hooks : Selection) (o : Module) (s : Script) → SameRunsBy info m hooks o s
    → SameRunsBy info m hooks (with_customs customs o) s
runs_same customs info m hooks o s same = record { each = same.each; ends = same.ends; prefix = same.prefix; parts = λ k. part_same customs info m hooks o s k (same.parts k) }

pub customs_same : (customs : List Text) (info : Info) (m : Module) (hooks : Selection) (o : Module) → SameBy info m hooks o → SameBy info m hooks (with_customs customs o)
customs_same customs info m hooks o same = record {
  links = λ slots s. link_same customs o slots s ∙ same.links slots s;
  runs = λ s range linked. runs_same customs info m hooks o s (same.runs s range linked);
}

-- ---- what is outside the bodies

pub shell_same : (customs : List Text) (info : Info) (m o : Module) → HasShell info m o → HasShell info m (with_customs customs o)
shell_same customs info m o shell = record {
  new_types = shell.new_types;
  types = shell.types;
  new_imports = shell.new_imports;
  imports = shell.imports;
  as_many = shell.as_many;
  hooks = hooks_same customs o (func_imports shell.new_imports) info.hooks shell.hooks;
  funcs = shell.funcs;
  tables = shell.tables;
  memories = shell.memories;
  globals = shell.globals;
  exports = shell.exports;
  start = shell.start;
  elements = shell.elements;
  bodies = shell.bodies;
  segments = shell.segments;
}

pub customs_change_nothing : CustomsChangeNothing
customs_change_nothing customs m hooks o valid within same =
    (valid_same customs o valid, within_same wide customs o within, customs_same customs (info_of m hooks) m hooks o same)
