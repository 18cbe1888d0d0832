use Rattle.std.proofs.Common.{◌-◌, ◌++◌, length, ap, sym, ◌∙◌}
use Rattle.std.specs.Cmp.Lexicographic.{same_text, other_text}
use Rattle.leb_binary.specs.Leb.{IsName}
use Rattle.name_map.specs.Sections.{chunk}
use Rattle.name_map.proofs.Chunks.{no_name, other_name, rest_behind}
use Rattle.name_map.proofs.section.name_data.Goals as goal

pub returns-in_default : goal.returns-in_default
returns-in_default c = no_name (chunk c.args.id c.args.content.now) (rw c.new-cursor.ensures.left at c.in_default.ensures.bad.1)

pub returns-then-eq : goal.returns-then-eq
returns-then-eq c =
    let (name, is, (bytes, front)) = c.in-Ok.ensures.ok in
    let here = rw c.new-cursor.ensures.left at front in
    let behind = rest_behind IsName c.args.content.now c.read_name.new.self.left name c.place.result here
    (c.place.ensures ∙ ap (λ l. length l - length c.read_name.new.self.left) (bytes ∙ c.new-cursor.ensures.bytes)) in
    (c.if-id-ne-CUSTOM.false, name, is ∙ same_text _ _ c.if-eq.ensures, (here.0, here.1 ∙ ap (λ l. here.0 ++ l) (sym behind), here.2))

pub returns : goal.returns
returns c =
    let (name, is, (bytes, front)) = c.in-Ok.ensures.ok in
    other_name (chunk c.args.id c.args.content.now) c.read_name.new.self.left name (rw c.new-cursor.ensures.left at front) (λ e. other_text _ _ c.if-eq.ensures (sym is ∙ e))
