-- Why a count of growths may hear of a run.
use Rattle.std.specs.declared.alloc.AllocError.{AllocError}
use Rattle.std.specs.Prelude.{alloc_error}
use Rattle.std.proofs.Common.{◌≡◌, ℕ, ◌+◌, ◌<◌, ◌≤◌, ◌^◌, List, [], ◌∷◌, ◌++◌, length, fold, Bool, true, false, Option, Some, None, IfSome, refl, sym, ap, subst, ◌∙◌, arith, append_assoc, length-append}
use Rattle.std.specs.Ordering.{nat_cmp}
use Rattle.std.specs.Map.{lookup, values_of}
use Rattle.std.specs.BTreeMap.{is_at}
use Rattle.std.proofs.lemmas.List.Elements.{All-weaker}
use Rattle.std.proofs.lemmas.List.Sums.{fold-append}
use Rattle.std.proofs.lemmas.Map.Views.{All-values-insert_entry, IfSome-lookup_from_All}
use Rattle.wasm_sem.specs.Types.{Event}
use Rattle.wasm_sem.specs.Execution.{TraceItem, events_in}
use Rattle.app_runs.specs.Listening.{Listens}
use Rattle.app_runs.specs.Listeners.{by_events}
use Rattle.memory_growth.specs.declared.growing.Growth.{Growth}
use Rattle.memory_growth.specs.Growths.{once_more, growth_of, with_growth, growths_after, Counts, MayCount, MayCountAll, CountsFirst}

-- ---- room

fewer : (m n : ℕ) (gs : List (ℕ × Growth)) → m ≤ n → MayCountAll n gs → MayCountAll m gs
fewer m n gs few room =
    (omega (arith, few, room.0), All-weaker (MayCount n) (MayCount m) (λ g r. (omega (arith, few, r.0), omega (arith, few, r.1))) (values_of gs) room.1)

-- one growth takes the room of one
room_of_one : (n : ℕ) (o : Option Growth) (refused : Bool) → n + 1 < 2 ^ 64 → IfSome o (MayCount (n + 1)) → MayCount n (once_more o refused)
room_of_one n None true few room = (omega (arith, few), omega (arith, few))
room_of_one n None false few room = (omega (arith, few), omega (arith, few))
room_of_one n (Some g) true few room = (omega (arith, room.0), omega (arith, room.1))
room_of_one n (Some g) false few room = (omega (arith, room.0), omega (arith, room.1))

room_with : (n : ℕ) (o : Option (ℕ × Bool)) (gs : List (ℕ × Growth)) → MayCountAll (n + 1) gs → MayCountAll n (with_growth o gs)
room_with n None gs room = fewer n (n + 1) gs (omega arith) room
room_with n (Some (func, refused)) gs room =
    let less = fewer n (n + 1) gs (omega arith) room in
    let found = IfSome-lookup_from_All (MayCount (n + 1)) (is_at (nat_cmp func)) gs room.1 in
    (less.0, All-values-insert_entry nat_cmp func _ (MayCount n) gs less.1 (room_of_one n (lookup (is_at (nat_cmp func)) gs) refused room.0 found))

room_behind : (es : List Event) (n : ℕ) (gs : List (ℕ × Growth)) → MayCountAll (length es + n) gs → MayCountAll n (fold growths_after gs es)
room_behind [] n gs room = fewer n (length {A = Event} [] + n) gs (omega arith) room
room_behind (e ∷ es) n gs room =
    room_behind es n (growths_after gs e) (room_with (length es + n) (growth_of e) gs (fewer (length es + n + 1) (length (e ∷ es) + n) gs (omega arith) room))

-- ---- the law

both_counted : (xs ys : List Event) (a b c : List (ℕ × Growth)) → Counts xs a b → Counts ys b c → Counts (xs ++ ys) a c
both_counted xs ys a b c t u = u ∙ ap (λ gs. fold growths_after gs ys) t ∙ sym (fold-append growths_after a xs ys)

pub growths_listen : Listens TraceItem (List (ℕ × Growth)) AllocError
    (λ is. Counts (events_in is)) (λ is. MayCountAll (length (events_in is))) (λ is. CountsFirst (events_in is)) (λ f. f ≡ alloc_error)
growths_listen =
    by_events (List (ℕ × Growth)) AllocError Counts (λ es. MayCountAll (length es)) CountsFirst (λ f. f ≡ alloc_error)
    (record {
      none = λ a. refl;
      both = both_counted;
      front = λ xs ys a room. fewer (length xs) (length (xs ++ ys)) a (omega (arith, length-append xs ys)) room;
      rest = λ xs ys a b room t.
          subst (MayCountAll (length ys)) (sym t) (room_behind xs (length ys) a (subst (λ n. MayCountAll n a) (length-append xs ys) room));
      wanting = λ es a f want. ([], es, refl, refl);
      early = λ xs ys a b f s. (s.0, s.1 ++ ys, ap (λ l. l ++ ys) s.2 ∙ append_assoc s.0 s.1 ys, s.3);
      late = λ xs ys a b c f t s.
          (xs ++ s.0, s.1, ap (λ l. xs ++ l) s.2 ∙ sym (append_assoc xs s.0 s.1), both_counted xs s.0 a b c t s.3);
    })
