use Rattle.std.proofs.Common.{◌≡◌, Some, None, Err, sym, ap, ◌∙◌, rules}
use Rattle.std.specs.Option.{option_map}
use Rattle.std.specs.Result.{result_or}
use Rattle.memory.specs.declared.access.Access.{Access}
use Rattle.memory.specs.declared.access.Right.TheVariants.{Write}
use Rattle.memory.proofs.Stores.{store-refused}
use Rattle.paged.specs.Kind.{meaning_of}
use Rattle.paged.proofs.Accesses.{located, page-store_answer, page-stored, unlocated}
use Rattle.paged.proofs.kind.Paged.store_in_page.Goals as goal

pub returns-in_err-behind : goal.returns-in_err-behind
returns-in_err-behind c =
    let s = c.args.self.now in
    let none : c.in_bytes.result ≡ None = c.in_err-behind.ensures.ok_part in
    let p = store-refused (meaning_of s) c.args.access.address c.args.access.size c.args.value (unlocated s.table.now c.in_bytes.ensures.separate s.bytes.now c.args.access.address c.args.access.size Write c.requires (sym (ap (option_map (λ (b : Access). b.address)) none) ∙ c.in_bytes.ensures.place)) in
    let r : c.from_residual.result ≡ Err (record { address = c.args.access.address }) = search rules in
    record { answer = r ∙ p.0; after = p.1 }

pub returns : goal.returns
returns c =
    let s = c.args.self.now in
    let behind : Access = c.in_ok-behind.behind in
    let is : c.in_bytes.result ≡ Some behind = c.in_ok-behind.ensures.ok_part in
    let size : behind.size ≡ c.args.access.size = c.in_bytes.ensures.size behind is in
    let l = located s.table.now Write c.args.access.address behind.address (sym (ap (option_map (λ (b : Access). b.address)) is) ∙ c.in_bytes.ensures.place) in
    record {
      answer = c.or.ensures ∙ ap (λ r. result_or r (Err (record { address = c.args.access.address }))) (rw size at c.store_into.ensures.answer) ∙ sym (page-store_answer s.table.now c.in_bytes.ensures.separate s.bytes.now c.args.access.address c.args.access.size _ l.1 c.requires l.2);
      after = page-stored s.table.now c.in_bytes.ensures.separate s.bytes.now c.args.access.address c.args.access.size _ l.1 c.requires l.2 _ c.args.value (rw size at c.store_into.ensures.after);
    }
