use Rattle.std.proofs.Common.{◌≡◌, ◌++◌, [], ◌∷◌, Some, None, true, cond, map, ap, sym, ◌∙◌, subst, rules}
use Rattle.std.proofs.lemmas.List.{reverse-append, same_from_push}
use Rattle.wasm_sem.specs.Nests.{bracket}
use Rattle.call_tree.specs.Counts.{path_at}
use Rattle.call_tree.specs.Paths.{path_to, is_function, same_bracket, closed_by}
use Rattle.call_tree.specs.State.{bracket_of, brackets_of, IsNodePlace}
use Rattle.call_tree.proofs.States.{path_with, path_same, same_kind, behind_none, not_function}
use Rattle.call_tree.proofs.tree.end.Goals as goal
use Rattle.call_tree.proofs.tree.end.Goals.{After-pop, In-Function}

-- the latest begin before the others
open_before : (c : After-pop) → brackets_of c.args.opened.now.items ≡ bracket_of c.in-Some.latest.now ∷ brackets_of c.pop.new.self.items
open_before c =
    let popped : c.args.opened.now.items ≡ c.pop.new.self.items ++ c.in-Some.latest.now ∷ [] = search rules in
    ap brackets_of popped ∙ ap (map bracket_of) (reverse-append c.pop.new.self.items (c.in-Some.latest.now ∷ []))

there_before : (c : After-pop) → IsNodePlace c.args.table.now (bracket_of c.in-Some.latest.now ∷ brackets_of c.pop.new.self.items) c.args.at
there_before c = subst (λ bs. IsNodePlace c.args.table.now bs c.args.at) (open_before c) c.requires

closes_it : (c : After-pop) → same_bracket (bracket_of c.in-Some.latest.now) (bracket c.args.loc.func c.args.kind c.args.begin) ≡ true
closes_it c = search rules

kind_is : (c : After-pop) → c.in-Some.latest.now.kind ≡ c.args.kind
kind_is c = same_kind (bracket_of c.in-Some.latest.now) (bracket c.args.loc.func c.args.kind c.args.begin) (closes_it c)

path_is : (c : In-Function) → path_at c.args.table.now c.args.at ≡ path_to (brackets_of c.pop.new.self.items) [] ++ c.in-Some.latest.now.func ∷ []
path_is c =
    let after = (goal.at.back-place-requires c).After-pop in
    (there_before after).1 ∙ path_with (brackets_of c.pop.new.self.items) (bracket_of c.in-Some.latest.now) (ap is_function (kind_is after ∙ c.in-Function.is))

pub back-place-requires : goal.back-place-requires
back-place-requires c = (behind_none c.args.table.now c.args.at _ _ (path_is c), c.requires.0)

pub returns-in-Function-clause-there : goal.returns-in-Function-clause-there
returns-in-Function-clause-there c =
    let shorter = c.back-place.ensures.shorter in (
      c.back-place.ensures.known,
      (same_from_push _ _ shorter.0 c.in-Some.latest.now.func (sym shorter.1 ∙ path_is (goal.at.returns-in-Function-clause-there c).In-Function)).0,
    )

pub returns-in_default-kind : goal.returns-in_default-kind
returns-in_default-kind c =
    let after = (goal.at.returns-in_default-kind c).After-pop in
    let there = there_before after in
    record {
      closed = ap (closed_by (bracket c.args.loc.func c.args.kind c.args.begin)) (open_before after)
          ∙ ap (λ b. cond b (Some (brackets_of c.pop.new.self.items)) None) (closes_it after);
      there = (
        there.0,
        there.1 ∙ path_same (brackets_of c.pop.new.self.items) (bracket_of c.in-Some.latest.now) (ap is_function (kind_is after) ∙ not_function c.args.kind c.in_default-kind.not-Function),
      );
      kept = tt;
    }

pub returns-in_default-clause-kept : goal.returns-in_default-clause-kept
returns-in_default-clause-kept c = search rules
