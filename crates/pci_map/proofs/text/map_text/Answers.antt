use Rattle.std.proofs.Common.{◌≡◌, length, subst, sym}
use Rattle.std.specs.String.{string_bytes}
use Rattle.pci_claims.specs.ToldOn.{AreOnIn}
use Rattle.pci_claims.specs.Values.{code_given_value, told_value}
use Rattle.pci_map.specs.Above.{AreSentAbove}
use Rattle.pci_map.specs.Ways.{AreWays}
use Rattle.pci_map.specs.Takers.{AreTakers}
use Rattle.pci_map.specs.Mapped.{IsSystemWith}
use Rattle.pci_map.proofs.MapTexts.{map_of}
use Rattle.pci_map.proofs.text.map_text.Goals as goal

pub push_roots-requires-clause-told : goal.push_roots-requires-clause-told
push_roots-requires-clause-told g c = record { lawful = c.requires; each_on = subst (AreOnIn (told_value c.args.told.now) c.args.outline.now) (sym c.as_slice.ensures.value) c.in_ok-on.ensures }

pub push_roots-requires-clause-ways : goal.push_roots-requires-clause-ways
push_roots-requires-clause-ways g c = subst (λ ways. length ways ≡ 256) (sym c.as_slice-3.ensures.value) c.in_ok-ways.ensures.size

pub push_asides-requires-clause-told : goal.push_asides-requires-clause-told
push_asides-requires-clause-told g c = record { lawful = c.requires; each_on = subst (AreOnIn (told_value c.args.told.now) c.args.outline.now) (sym c.as_slice.ensures.value) c.in_ok-on.ensures }

pub push_asides-requires-clause-ways : goal.push_asides-requires-clause-ways
push_asides-requires-clause-ways g c = subst (λ ways. length ways ≡ 256) (sym c.as_slice-3.ensures.value) c.in_ok-ways.ensures.size

pub push_off-requires : goal.push_off-requires
push_off-requires g c = record { lawful = c.requires; each_on = subst (AreOnIn (told_value c.args.told.now) c.args.outline.now) (sym c.as_slice.ensures.value) c.in_ok-on.ensures }

pub returns : goal.returns
returns g c = λ s tree listed.
    let told = told_value c.args.told.now in
    let given = code_given_value c.args.given.now in
    let roots = c.args.outline.now.roots in
    let sent = c.in_ok-above.ensures s tree.records in
    let of : IsSystemWith told given c.args.outline.now c.as_slice-2.result.now c.as_slice-3.result.now c.as_slice-4.result.now s =
    record {
      is = record { tree = tree; sent = subst (AreSentAbove given c.args.outline.now s) (sym c.as_slice-2.ensures.value) sent; is_told = record { lawful = c.requires; listed = listed } };
      ways_are = subst (AreWays given roots s) (sym c.as_slice-3.ensures.value) (c.in_ok-ways.ensures.ways s sent.tree);
      takers_are = subst (AreTakers given roots s) (sym c.as_slice-4.ensures.value) (c.in_ok-takers.ensures s sent.tree);
    } in
    map_of told given roots s (string_bytes c.new-text.result) (string_bytes c.push_roots.new.text) (string_bytes c.push_asides.new.text) (string_bytes c.push_off.new.text)
    c.new-text.ensures.bytes
    (c.in_ok-push_roots.ensures s of) (c.in_ok-push_asides.ensures s of) (c.in_ok-push_off.ensures s tree)
