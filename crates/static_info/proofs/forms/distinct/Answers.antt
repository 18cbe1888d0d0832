use Rattle.std.proofs.Common.{◌≡◌, length, sym, ap, ◌∙◌, Some}
use Rattle.static_info.specs.Shape.{distinct_form}
use Rattle.static_info.proofs.KeysRead.{distinct_told}
use Rattle.static_info.proofs.forms.distinct.Goals as goal

pub returns : goal.returns
returns c =
    let keys = c.into_vec-keys.result in
    let count : c.len-count.result ≡ length keys.items = c.len-count.ensures ∙ keys.ok.0 in
    let told = distinct_told keys.items c.in_ok-set.set.keys c.len.result c.len-count.result c.in_ok-set.ensures c.len.ensures.len count c.if-len-count.false in
    ap distinct_form (sym c.into_vec-keys.ensures) ∙ told ∙ ap Some (sym (c.from_vec.ensures ∙ c.in_ok-listed.ensures))
