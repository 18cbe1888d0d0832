use Rattle.std.proofs.Common.{length, Option, Some, None, ap, arith, rules, subst}
use Rattle.leb_binary.specs.Texts.{Text}
use Rattle.leb_binary.specs.Leb.{IsName}
use Rattle.leb_binary.proofs.Fronts.{one_name}
use Rattle.module_ast.proofs.Compose.{whole_missing, whole_none}
use Rattle.name_map.specs.Sections.{IsModuleNameIn}
use Rattle.name_map.proofs.Chunks.{seen}
use Rattle.name_map.proofs.section.module_name.Goals as goal

pub returns-in_err-name-clause-malformed : goal.returns-in_err-name-clause-malformed
returns-in_err-name-clause-malformed c = λ e o p.
    let h = rw c.new-cursor.ensures.left at c.in_err-name.ensures.malformed in
    let q = subst (λ s. IsModuleNameIn (seen s) o) c.in-Some.is p in
    elim o as (λ (v : Option Text). IsModuleNameIn (Some c.in-Some.content.now) v → ⊥) [ None ↦ λ q. q | Some t ↦ λ q. whole_missing IsName c.in-Some.content.now (h (search rules)) t q ] q

pub returns-then-left-ne0-clause-malformed : goal.returns-then-left-ne0-clause-malformed
returns-then-left-ne0-clause-malformed c = λ e o p.
    let here = rw c.new-cursor.ensures.left at c.in_ok-name.ensures.ok in
    let q = subst (λ s. IsModuleNameIn (seen s) o) c.in-Some.is p in
    elim o as (λ (v : Option Text). IsModuleNameIn (Some c.in-Some.content.now) v → ⊥) [ None ↦ λ q. q | Some t ↦ λ q. whole_none IsName one_name c.in-Some.content.now _ c.in_ok-name.name here (λ z. omega (arith, ap length z)) t q ] q
