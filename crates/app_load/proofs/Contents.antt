-- Contents that a read left as they were, and calls one after the other.
use Rattle.std.proofs.Common.{◌≡◌, ℕ, suc, refl, ap, subst, ◌∙◌, arith, Option, Some, None}
use Rattle.std.proofs.Math.Path.{fun_ext}
use Rattle.outside_io.specs.Outside.{Contents, Unchanged, after_calls, ShelfState, OnlyRead, OnlyWrote}

-- what was not touched at all
pub unchanged_same : (held : Option Contents) → Unchanged held held
unchanged_same None = tt
unchanged_same (Some held) = λ name. refl

-- contents with each name as before are those before
pub same_contents : (old new : Option Contents) → Unchanged old new → new ≡ old
same_contents None None p = refl
same_contents (Some old) (Some new) p = ap Some (fun_ext p)
same_contents _ _ p = absurd p

-- ---- calls

-- no call was made
pub none_read : (at : ShelfState) → OnlyRead 0 at at
none_read at = record { contents = unchanged_same at.contents; reads = refl; writes = refl; read_faults = λ name. omega arith; write_faults = refl }

pub none_written : (at : ShelfState) → OnlyWrote 0 at at
none_written at = record { reads = refl; writes = refl; read_faults = refl; write_faults = omega arith }

-- one read, and more
pub read_then : (more : ℕ) (a b c : ShelfState) → OnlyRead 1 a b → OnlyRead more b c → OnlyRead (suc more) a c
read_then more a b c p q = record {
  contents = subst (λ held. Unchanged held c.contents) (same_contents a.contents b.contents p.contents) q.contents;
  reads = q.reads ∙ ap (after_calls more) p.reads;
  writes = q.writes ∙ p.writes;
  read_faults = λ name. omega (arith, p.read_faults name, q.read_faults name);
  write_faults = q.write_faults ∙ p.write_faults;
}

-- one write, and more
pub write_then : (more : ℕ) (a b c : ShelfState) → OnlyWrote 1 a b → OnlyWrote more b c → OnlyWrote (suc more) a c
write_then more a b c p q = record {
  reads = q.reads ∙ p.reads;
  writes = q.writes ∙ ap (after_calls more) p.writes;
  read_faults = q.read_faults ∙ p.read_faults;
  write_faults = omega (arith, p.write_faults, q.write_faults);
}
