use Rattle.std.proofs.Common.{◌≡◌, [], ◌∷◌, ◌++◌, refl, sym, subst, ap, arith, rules}
use Rattle.std.specs.Prelude.{Err}
use Rattle.leb_binary.specs.Reading.{IsByte}
use Rattle.module_ast.specs.Binary.{AreItems, IsSection, IsSized, IsContent}
use Rattle.module_ast.proofs.Compose.{read_more, whole_some}
use Rattle.wasm_decode.specs.Drafts.{IsDraft}
use Rattle.wasm_decode.specs.declared.fault.DecodeFault.TheVariants.{Malformed}
use Rattle.wasm_decode.specs.Files.{FailsAt}
use Rattle.wasm_decode.proofs.Fronts.{front_shorter, byte_shorter}
use Rattle.wasm_decode.proofs.Headers.{bytes_left, bytes_end, fails_at}
use Rattle.wasm_decode.proofs.SectionKinds.{last_more, ordered_more, module_more, section_front, next_unordered, next_malformed}
use Rattle.wasm_decode.proofs.files.read_sections.Goals as goal

pub loop-id-init : goal.loop-id-init
loop-id-init c = ([], ([], refl, refl), tt, refl, c.new-draft.ensures c.args.nesting, c.requires.fits, c.requires.bytes)

pub returns-in_default-clause-ok : goal.returns-in_default-clause-ok
returns-in_default-clause-ok c =
    let i = c.loop-id.invariant in
    (i.0, whole_some (AreItems IsSection) _ _ i.0 i.1 (bytes_end _ i.5 c.in_default.ensures.bad.1), i.2, i.4)

pub returns-then-not-ordered-clause-malformed : goal.returns-then-not-ordered-clause-malformed
returns-then-not-ordered-clause-malformed c = λ n e.
    let i = c.loop-id.invariant in
    let o = c.in_order-ordered.ensures.no (search rules) in
    let k : c.in-Ok.id ≡ n = cc in
    subst (λ v. FailsAt c.args.cursor.now.left v) k (fails_at _ _ _ _ i.0 i.1 i.2 c.in-Ok.ensures.ok.1 (next_unordered i.0 _ _ o.0 (omega (arith, o.1, i.3))))

pub read_section-requires-clause-bytes : goal.read_section-requires-clause-bytes
read_section-requires-clause-bytes c = omega (arith, c.loop-id.invariant.6, front_shorter IsByte _ _ _ c.in-Ok.ensures.ok.1)

pub returns-in-Err-clause-malformed : goal.returns-in-Err-clause-malformed
returns-in-Err-clause-malformed c = λ n e.
    let i = c.loop-id.invariant in
    let f : c.stopped.result ≡ Malformed n = cc in
    let s = c.stopped.ensures.malformed n f in
    subst (λ v. FailsAt c.args.cursor.now.left v) (sym s.1) (fails_at _ _ _ _ i.0 i.1 i.2 c.in-Ok.ensures.ok.1 (next_malformed i.0 _ _ (λ t rest. c.in-Err.ensures.malformed (ap Err s.0) t rest)))

pub loop-id-preserved : goal.loop-id-preserved
loop-id-preserved c =
    let i = c.loop-id.invariant in
    let r = c.in-Ok-read_section.ensures.ok in
    let o = c.in_order-ordered.ensures.yes (search rules) in
    (i.0 ++ r.0 ∷ [], read_more IsSection _ _ _ i.0 r.0 i.1 (section_front _ _ _ _ r.0 c.in-Ok.ensures.ok.1 r.1 r.2), ordered_more 0 i.0 r.0 i.2 (rw (← r.1, ← i.3) o), omega (arith, last_more 0 i.0 r.0, i.3, r.1), subst (λ m. IsDraft c.args.nesting c.read_section.new.draft m) (sym (module_more i.0 r.0)) (r.3 _ i.4), bytes_left (IsSized (IsContent r.0.0)) _ _ _ r.2 (bytes_left IsByte _ _ _ c.in-Ok.ensures.ok.1 i.5), omega (arith, i.6, front_shorter IsByte _ _ _ c.in-Ok.ensures.ok.1, front_shorter (IsSized (IsContent r.0.0)) _ _ _ r.2))

pub loop-id-smaller : goal.loop-id-smaller
loop-id-smaller c =
    let r = c.in-Ok-read_section.ensures.ok in
    omega (arith, byte_shorter _ _ _ c.in-Ok.ensures.ok.1, front_shorter (IsSized (IsContent r.0.0)) _ _ _ r.2)
