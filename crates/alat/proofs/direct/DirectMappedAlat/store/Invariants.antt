use Rattle.std.proofs.Common.{◌≡◌, ℕ, ◌<◌, ◌≤◌, not, length, get_or, None}
use Rattle.std.proofs.lemmas.Map.Entries.{option_filter}
use Rattle.alat.specs.Table.{shares_a_byte}
use Rattle.alat.proofs.direct.DirectMappedAlat.store.Given as goal

abbrev pub invariant-loop-place : goal.invariant-loop-place
invariant-loop-place l = record {
  done : (k : ℕ) → k < l.place-index → get_or l.place-items k None ≡ option_filter (λ e. not (shares_a_byte e l.access)) (get_or l.initial.place-items k None);
  rest : (k : ℕ) → l.place-index ≤ k → get_or l.place-items k None ≡ get_or l.initial.place-items k None;
  long : length l.place-items ≡ 32;
}
