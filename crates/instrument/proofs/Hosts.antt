-- The store counts the calls of the host, so a step that makes one finds the store before the step of the original.
use Rattle.std.proofs.Common.{◌≡◌, inl, inr, ℕ, suc, ◌+◌, ◌≤◌, List, [], ◌∷◌, map, Option, refl, ap, arith}
use Rattle.wasm_sem.specs.Execution.{hosts_in, Store, Instance, Configuration, configuration, run, TraceItem, entry, host_call, event, hook_call, host_calls, items}
use Rattle.wasm_sem.proofs.HostCounts.{calls-append, mapped_none, next_counts}
use Rattle.index_remap.specs.declared.Remap.{Remap}
use Rattle.static_info.specs.declared.Info.{Info}
use Rattle.static_info.specs.Items.{read, read_call}
use Rattle.instrument.specs.Same.{map_store}
use Rattle.instrument.proofs.Along.{store_in, Either}

-- reading leaves the calls of the host
pub read_hosts : (info : Info) (slots : List (Option ℕ)) (is : List TraceItem) → host_calls (read info slots is) ≡ host_calls is
read_hosts info slots [] = refl
read_hosts info slots (event e ∷ is) = read_hosts info slots is
read_hosts info slots (entry c ∷ is) = read_hosts info slots is
read_hosts info slots (host_call f vs rs ws ∷ is) = ap suc (read_hosts info slots is)
read_hosts info slots (hook_call h ∷ is) =
    let es = read_call info slots h in
    omega (arith, calls-append (map event es) (read info slots is), mapped_none es, read_hosts info slots is)

-- the store has their number
pub hosts_there : (c : Configuration) → hosts_in c ≡ (store_in c).hosts
hosts_there (configuration e fs) = refl

made_next : (inst : Instance) (n : ℕ) (c : Configuration) → (store_in (run inst (suc n) c)).hosts ≡ (store_in (run inst n c)).hosts + host_calls (items inst (run inst n c))
made_next inst n c = omega (arith, next_counts inst n c, hosts_there (run inst (suc n) c), hosts_there (run inst n c))

-- A step of the output that calls the host finds the store before the step of the original, if it and the next find that or
-- the one behind it.
pub finds_before : (r : Remap) (inst out : Instance) (n k : ℕ) (c c' : Configuration)
    → Either (map_store r (store_in (run inst n c))) (map_store r (store_in (run inst (suc n) c))) (store_in (run out k c'))
    → Either (map_store r (store_in (run inst n c))) (map_store r (store_in (run inst (suc n) c))) (store_in (run out (suc k) c'))
    → 1 ≤ host_calls (items out (run out k c')) → store_in (run out k c') ≡ map_store r (store_in (run inst n c))
finds_before r inst out n k c c' (inl e) next some = e
finds_before r inst out n k c c' (inr e) next some = absurd (never next)
  where
    -- it was called once more than it can have been
    never : Either (map_store r (store_in (run inst n c))) (map_store r (store_in (run inst (suc n) c))) (store_in (run out (suc k) c')) → ⊥
    never (inl e1) = omega (arith, made_next out k c', made_next inst n c, ap (λ (st : Store). st.hosts) e, ap (λ (st : Store). st.hosts) e1, some)
    never (inr e1) = omega (arith, made_next out k c', ap (λ (st : Store). st.hosts) e, ap (λ (st : Store). st.hosts) e1, some)
