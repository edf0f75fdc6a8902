use Rattle.std.proofs.Common.{ℕ, ◌+◌, Bool, refl, ap, ◌∙◌, add-zero, rules, tests, arith}
use Rattle.std.proofs.lemmas.Iterator.{YieldsList-from_range}
use Rattle.std.proofs.lemmas.Iterator.Search.{all_from_yields_List}
use Rattle.memory.specs.Access.{has}
use Rattle.memory.specs.Meaning.{each}
use Rattle.paged.specs.Kind.{meaning_of}
use Rattle.paged.proofs.Bytewise.{each-all}
use Rattle.paged.proofs.kind.Paged.grants_across.Goals as goal

pub returns : goal.returns
returns c =
    let a = c.args.access.address in
    let n = c.bytes.result in
    let test : ℕ → Bool = λ x. has (meaning_of c.args.self.now x).rights c.args.right in
    all_from_yields_List (λ (k : ℕ). test (a + k)) _ _ _ c.all.ensures.ran (YieldsList-from_range 0 n n refl (omega arith)) (λ k b q called. search (rules, tests))
    ∙ each-all test a 0 n ∙ ap (λ x. each test x n) (add-zero a) ∙ ap (each test a) c.bytes.ensures
