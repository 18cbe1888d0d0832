-- The book of a list of events: how it goes on with an event more, and what its tags are.
--     book_more            one event more
--     takes_make_book      taking event after event makes it
--     books_have_tags      the rows have the tags of the kind
use Rattle.std.proofs.Common.{◌≡◌, ◌≤◌, lit≤, List, [], ◌∷◌, ◌++◌, map, filter_map, fold, Option, Some, None, refl, ap, sym, ◌∙◌, append_assoc, inl, inr}
use Rattle.std.specs.List.{AllByRecursion, cons_option}
use Rattle.std.proofs.lemmas.List.{append-nil}
use Rattle.std.proofs.lemmas.List.Elements.{filter_map-append, All-from_recursion}
use Rattle.module_ast.proofs.Each.{all_of_map}
use Rattle.wasm_num.specs.declared.BlockKind.{BlockKind}
use Rattle.wasm_num.specs.declared.BlockKind.TheVariants as parts
use Rattle.hook_select.specs.declared.Event.{Event}
use Rattle.hook_select.specs.declared.Event.TheVariants.{If, Br, BrIf, BrTable, Begin, Load, Store, CallPre, IndirectPre}
use Rattle.wasm_num.specs.Kinds.{kind_number}
use Rattle.analyses.specs.declared.Kind.{Kind}
use Rattle.analyses.specs.declared.Kind.TheVariants.{Blocks, Branches, Calls, Memory}
use Rattle.analyses.specs.declared.Row.{Row}
use Rattle.analyses.specs.Book.{Key, counted_key, block_key, branch_key, call_graph_key, memory_key, row_in, book, sorted_keys, with_counted, rows_after, address_of, IsTagOf, TakesMakeBook, BooksHaveTags}
use Rattle.analyses.proofs.SortedKeys.{member_sorted, rising_sorted, sorted_keys-snoc, all_sorted}
use Rattle.analyses.proofs.BookSteps.{found_from, none_from, rows_without, rows_with}

keys_more : (kind : Kind) (es : List Event) (e : Event) (o : Option Key) → counted_key kind e ≡ o
    → filter_map (counted_key kind) (es ++ e ∷ []) ≡ filter_map (counted_key kind) es ++ cons_option o []
keys_more kind es e o is = filter_map-append (counted_key kind) es (e ∷ []) ∙ ap (λ p. filter_map (counted_key kind) es ++ cons_option p []) is

book_at : (kind : Kind) (es : List Event) (e : Event) (o : Option Key) → counted_key kind e ≡ o → book kind (es ++ e ∷ []) ≡ with_counted kind (address_of e) (book kind es) o
book_at kind es e None is =
    ap (λ ks. map (row_in kind (es ++ e ∷ [])) (sorted_keys ks)) (keys_more kind es e None is ∙ append-nil (filter_map (counted_key kind) es))
    ∙ rows_without kind es e is (sorted_keys (filter_map (counted_key kind) es))
book_at kind es e (Some k) is =
    let ks : List Key = filter_map (counted_key kind) es in
    ap (λ js. map (row_in kind (es ++ e ∷ [])) (sorted_keys js)) (keys_more kind es e (Some k) is)
    ∙ ap (map (row_in kind (es ++ e ∷ []))) (sorted_keys-snoc ks k)
    ∙ rows_with kind es e k is (sorted_keys ks) (rising_sorted ks)
    (λ q among. found_from kind q es (sym (member_sorted q ks) ∙ among))
    (λ apart. none_from kind k es (sym (member_sorted k ks) ∙ apart))

-- one event more
pub book_more : (kind : Kind) (es : List Event) (e : Event) → book kind (es ++ e ∷ []) ≡ rows_after kind (book kind es) e
book_more kind es e = book_at kind es e (counted_key kind e) refl

-- events more, one by one
pub book_further : (kind : Kind) (es more : List Event) → fold (rows_after kind) (book kind es) more ≡ book kind (es ++ more)
book_further kind es [] = ap (book kind) (sym (append-nil es))
book_further kind es (e ∷ more) =
    ap (λ rows. fold (rows_after kind) rows more) (sym (book_more kind es e)) ∙ book_further kind (es ++ e ∷ []) more
    ∙ ap (book kind) (append_assoc es (e ∷ []) more)

pub takes_make_book : TakesMakeBook
takes_make_book kind es = book_further kind [] es

-- ---- tags

abbrev KeyHasTag : Kind → Option Key → Type 0
KeyHasTag kind None = Unit {0}
KeyHasTag kind (Some k) = IsTagOf kind k.tag

number_bound : (b : BlockKind) → kind_number b ≤ 4
number_bound parts.Function = lit≤ tt
number_bound parts.Block = lit≤ tt
number_bound parts.Loop = lit≤ tt
number_bound parts.If = lit≤ tt
number_bound parts.Else = lit≤ tt

block_tag : (e : Event) → KeyHasTag Blocks (block_key e)
block_tag (Begin loc kind) = number_bound kind
block_tag _ = tt

branch_tag : (e : Event) → KeyHasTag Branches (branch_key e)
branch_tag (If loc cond) = lit≤ tt
branch_tag (Br loc label target) = lit≤ tt
branch_tag (BrIf loc label target cond) = lit≤ tt
branch_tag (BrTable loc index label target) = lit≤ tt
branch_tag _ = tt

call_tag : (e : Event) → KeyHasTag Calls (call_graph_key e)
call_tag (CallPre loc callee args) = refl
call_tag (IndirectPre loc ty slot callee args) = refl
call_tag _ = tt

memory_tag : (e : Event) → KeyHasTag Memory (memory_key e)
memory_tag (Load loc op offset address value) = inl (op, refl)
memory_tag (Store loc op offset address value) = inr (op, refl)
memory_tag _ = tt

key_tag : (kind : Kind) (e : Event) → KeyHasTag kind (counted_key kind e)
key_tag Blocks e = block_tag e
key_tag Branches e = branch_tag e
key_tag Calls e = call_tag e
key_tag Memory e = memory_tag e

tag_at : (kind : Kind) (ks : List Key) (o : Option Key) → KeyHasTag kind o → AllByRecursion (λ k. IsTagOf kind k.tag) ks
    → AllByRecursion (λ k. IsTagOf kind k.tag) (cons_option o ks)
tag_at kind ks None one all = all
tag_at kind ks (Some k) one all = (one, all)

key_tags : (kind : Kind) (es : List Event) → AllByRecursion (λ k. IsTagOf kind k.tag) (filter_map (counted_key kind) es)
key_tags kind [] = tt
key_tags kind (e ∷ es) = tag_at kind (filter_map (counted_key kind) es) (counted_key kind e) (key_tag kind e) (key_tags kind es)

pub books_have_tags : BooksHaveTags
books_have_tags kind es =
    let ks : List Key = filter_map (counted_key kind) es in
    All-from_recursion (λ (r : Row). IsTagOf kind r.tag) (book kind es)
    (all_of_map (λ (r : Row). IsTagOf kind r.tag) (row_in kind es) (sorted_keys ks) (all_sorted (λ k. IsTagOf kind k.tag) ks (key_tags kind es)))
