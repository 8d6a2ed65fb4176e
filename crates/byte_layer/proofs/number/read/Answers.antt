use Rattle.std.proofs.Common.{◌≡◌, ap, ◌∙◌}
use Rattle.byte_layer.specs.Number.{number, Octets}
use Rattle.byte_layer.proofs.Numbers.{read_there, stood}
use Rattle.byte_layer.proofs.number.read.Goals as goal

pub returns : goal.returns
returns g c =
    let k = g.row.N in
    let t = c.args.text.now in
    let o : Octets t = λ i. (c.type_inv.text i).fits in
    let there : number k c.octets_at.result.now 0 ≡ number k t c.args.at = read_there k t c.octets_at.result.now c.args.at o c.requires c.octets_at.ensures in
    record { value = c.from_octets.ensures.value ∙ ap g.T.Number.of_code there; stood = stood k t c.args.at (g.T.Number.code c.from_octets.result) o c.requires (c.from_octets.ensures.code ∙ there) }
