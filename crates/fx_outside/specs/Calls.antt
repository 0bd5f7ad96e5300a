-- Which calls of an object in memory fail.
use Rattle.std.specs.Prelude.{ℕ, ◌+◌, ◌-◌, ◌^◌, min, List, [], Bool, ◌==◌}
use Rattle.std.specs.List.{list_any}

-- so many more, where a `u64` has room for them
abbrev pub so_many_more : ℕ → ℕ → ℕ
so_many_more more n = min (n + more) (2 ^ 64 - 1)

-- one more, where a `u64` has room for it
abbrev pub one_more : ℕ → ℕ
one_more n = min (n + 1) (2 ^ 64 - 1)

-- the numbers of the calls that are to fail, counted from 1; how many calls came, and how many failed; the name of the
-- last that did
pub record Calls : Type 0 where
  pub failing : List ℕ
  pub calls : ℕ
  pub faults : ℕ
  pub last : List ℕ

-- no call came
abbrev pub no_calls : List ℕ → Calls
no_calls failing = record { failing = failing; calls = 0; faults = 0; last = [] }

-- the next call is to fail
abbrev pub is_next_to_fail : Calls → Bool
is_next_to_fail c = list_any (λ n. n == one_more c.calls) c.failing

-- one more call came
abbrev pub after_call : Calls → Calls
after_call c = record { failing = c.failing; calls = one_more c.calls; faults = c.faults; last = c.last }

-- the call that came, with this name, failed
abbrev pub with_fault : List ℕ → Calls → Calls
with_fault name c = record { failing = c.failing; calls = c.calls; faults = one_more c.faults; last = name }

-- one more call came, with this name, and failed
abbrev pub after_fault : List ℕ → Calls → Calls
after_fault name c = with_fault name (after_call c)
