use Rattle.std.proofs.Common.{◌≡◌, refl, rules}
use Rattle.bundle.specs.Templates.{template_of}
use Rattle.bundle.proofs.Tables.{entry, none-past}
use Rattle.bundle.proofs.template.TemplateTryFromU8.try_from.Goals as goal

pub returns : goal.returns
returns c =
    let is = entry template_of 32 _ refl none-past c.from.result c.get.result c.get.ensures.lookup in
    let same : c.from.result ≡ c.args.number = search rules in
    let found : c.flatten.result ≡ template_of c.from.result = rw (c.flatten.ensures, c.copied.ensures) is in
    let it : c.flatten.result ≡ template_of c.args.number = rw same at found in
    rw it at c.ok_or.ensures.value
