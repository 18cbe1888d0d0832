use Rattle.std.proofs.Common.{◌≡◌, drop, take, length, ◌-◌, Some, inr, refl, ap, ◌∙◌, subst, rules}
use Rattle.std.proofs.lemmas.List.{take_rest, drop_at}
use Rattle.module_ast.specs.Binary.{AreItems, header}
use Rattle.name_map.specs.Sections.{IsChunk}
use Rattle.name_map.specs.declared.Named.{Named}
use Rattle.name_map.specs.declared.Locals.{Locals}
use Rattle.name_map.proofs.Proper.{kept_below}
use Rattle.name_map.proofs.read.read_names.Goals as goal

pub returns-in-Err-Malformed-clause-names : goal.returns-in-Err-Malformed-clause-names
returns-in-Err-Malformed-clause-names c =
    let file = c.requires in
    let r = c.in-Some.ensures in
    let behind : take (length c.args.bytes.now - 8) (drop 8 c.args.bytes.now) ≡ file.0 =
    take_rest c.args.bytes.now 8 ∙ (ap (drop 8) file.2 ∙ drop_at header file.0 8 refl) in (
      file.0,
      r.0,
      Some c.in-Some.section.now,
      file.2,
      subst (λ l. AreItems IsChunk l r.0) behind r.1,
      r.2,
      inr (λ all q. c.in-Err-Malformed.ensures.malformed (search rules) all q, c.no_names-in-Err-Malformed.ensures),
    )

pub returns-in-Ok-clause-functions : goal.returns-in-Ok-clause-functions
returns-in-Ok-clause-functions c = rw c.known.ensures (kept_below (λ (n : Named). n.index) c.args.functions c.in-Ok.names.functions)

pub returns-in-Ok-clause-locals : goal.returns-in-Ok-clause-locals
returns-in-Ok-clause-locals c = rw c.known.ensures (kept_below (λ (l : Locals). l.func) c.args.functions c.in-Ok.names.locals)
