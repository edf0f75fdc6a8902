use Rattle.std.proofs.Common.{◌≡◌, ℕ, ◌<◌, true, ◌/◌, ◌%◌, ◌^◌, get_or, sym, ap, ◌∙◌, arith}
use Rattle.std.proofs.lemmas.List.{get_or-take, length-take}
use Rattle.memory.specs.declared.access.Right.TheVariants.{Write}
use Rattle.memory.specs.Access.{bytes_of}
use Rattle.memory.specs.Meaning.{granted}
use Rattle.memory.proofs.Loads.{granted-fits}
use Rattle.memory.proofs.Puts.{eight-at}
use Rattle.memory.proofs.Ranges.{few_bytes, some_bytes}
use Rattle.memory.proofs.Stores.{put-none}
use Rattle.paged.specs.Kind.{meaning_of}
use Rattle.paged.specs.Pages.{paged-bounded}
use Rattle.paged.proofs.Bytewise.{stored_next}
use Rattle.paged.proofs.kind.Paged.store_across.Goals as goal

pub loop-i-init : goal.loop-i-init
loop-i-init c = put-none _ c.args.access.address c.args.value

pub overflow_add-at : goal.overflow_add-at
overflow_add-at c =
    let s = c.args.self.now in
    let size = c.args.access.size in
    let fits = granted-fits (meaning_of s) (paged-bounded s.table.now s.bytes.now) Write c.args.access.address (bytes_of size) (some_bytes size) (sym c.grants_across.ensures ∙ c.if-not-grants_across.false) in
    omega (arith, length-take c.bytes.result c.to_le_bytes-bytes.result)

pub loop-i-preserved : goal.loop-i-preserved
loop-i-preserved c =
    let m = meaning_of c.args.self.now in
    let a = c.args.access.address in
    let i : ℕ = c.loop-i.i in
    let n = bytes_of c.args.access.size in
    let few = few_bytes c.args.access.size in
    let can : granted m Write a n ≡ true = sym c.grants_across.ensures ∙ c.if-not-grants_across.false in
    let less : i < n = omega (arith, length-take c.bytes.result c.to_le_bytes-bytes.result) in
    let byte : c.from.result ≡ c.args.value / 256 ^ i % 256 = c.from.ensures ∙ get_or-take c.bytes.result c.to_le_bytes-bytes.result i 0 (omega arith) ∙ ap (λ xs. get_or xs i 0) c.to_le_bytes-bytes.ensures ∙ eight-at c.args.value i (omega arith) in
    stored_next m _ _ a i n c.args.value _ c.loop-i.invariant less can byte c.store_in_page.ensures.after
