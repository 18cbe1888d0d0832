use Rattle.std.proofs.Common.{◌≡◌, Some, true, false, length, take, refl, sym, ap, subst, ◌∙◌, arith}
use Rattle.std.specs.Prelude.{slice_get}
use Rattle.std.specs.List.{list_any}
use Rattle.std.specs.Str.{bytes_eq}
use Rattle.std.proofs.lemmas.Bool.{false≢true, not-false, not-true}
use Rattle.std.proofs.lemmas.List.{take_all}
use Rattle.std.proofs.lemmas.Option.{slice_get_read}
use Rattle.module_ast.specs.declared.module.Export.{Export}
use Rattle.wasm_valid.proofs.Apart.{AreApart, not_apart, apart_more, names_more}
use Rattle.wasm_valid.proofs.names.keeps_export_names.Goals as goal

pub returns-then-not-branch : goal.returns-then-not-branch
returns-then-not-branch c =
    let es = c.as_slice-exports.result.now in
    let i = c.loop-export.export-index in
    let x = c.export-item.result in
    let at : slice_get es i ≡ Some x = slice_get_read es (length es) i x refl (omega arith) c.export-item.is in
    let met : list_any (λ (e : Export). bytes_eq x.name.bytes e.name.bytes) (take i es) ≡ true =
    ap (λ name. list_any (λ (e : Export). bytes_eq name e.name.bytes) (take i es)) (sym c.as_str.ensures) ∙ sym (c.loop-export.invariant.seen c.as_str.result.now)
    ∙ not-false _ (sym c.in_ok-insert.ensures.added ∙ c.if-not-branch.true) in
    (λ h. absurd (false≢true h), λ keeps. absurd (not_apart es i x at met (subst AreApart (sym c.as_slice-exports.ensures) keeps)))

pub loop-export-preserved : goal.loop-export-preserved
loop-export-preserved c =
    let es = c.as_slice-exports.result.now in
    let i = c.loop-export.export-index in
    let x = c.export-item.result in
    let at : slice_get es i ≡ Some x = slice_get_read es (length es) i x refl (omega arith) c.export-item.is in
    let new : list_any (λ (e : Export). bytes_eq x.name.bytes e.name.bytes) (take i es) ≡ false =
    ap (λ name. list_any (λ (e : Export). bytes_eq name e.name.bytes) (take i es)) (sym c.as_str.ensures) ∙ sym (c.loop-export.invariant.seen c.as_str.result.now)
    ∙ not-true _ (sym c.in_ok-insert.ensures.added ∙ c.if-not-branch.false) in
    record {
      seen = names_more c.loop-export.seen c.insert.new.self c.as_str.result.now es i x at c.as_str.ensures (λ q. c.in_ok-insert.ensures.updates.0 q) c.loop-export.invariant.seen;
      apart = apart_more es i x at new c.loop-export.invariant.apart;
    }

pub returns : goal.returns
returns c =
    let es = c.as_slice-exports.result.now in
    let all : take c.loop-export.export-index es ≡ es = take_all c.loop-export.export-index es (omega arith) in
    (λ _. subst AreApart (all ∙ c.as_slice-exports.ensures) c.loop-export.invariant.apart, λ _. refl)
