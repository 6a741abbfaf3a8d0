use Rattle.std.proofs.Common.{◌≡◌, ◌<◌, ◌≤◌, ◌==◌, ◌||◌, not, false, refl, inl, inr, ℕ, ◌++◌, List, map, length, sym, ◌∙◌, ap, subst, arith}
use Rattle.std.proofs.lemmas.Bool.{both_ways, cases_lt, ne_eqb, eqb-true, eqb-false}
use Rattle.std.proofs.lemmas.List.{length-map}
use Rattle.std.specs.List.{flat_map, All}
use Rattle.std.specs.String.{string_bytes}
use Rattle.pci_spec.specs.Header.{layout}
use Rattle.pci_spec.specs.System.{Function}
use Rattle.pci_spec.specs.Decoded.{record_of}
use Rattle.pci_spec.specs.Listing.{header_line, capability_line, places_of}
use Rattle.pci_image.specs.declared.layout.Layout.{Layout}
use Rattle.pci_image.specs.declared.layout.Layout.TheVariants.{Device, Bridge}
use Rattle.pci_image.specs.Layouts.{is_of_bridge, layout_number}
use Rattle.pci_image.specs.declared.capability.Cap.{Cap}
use Rattle.pci_image.specs.Caps.{place_of}
use Rattle.pci_function.proofs.Examined.{chain_fault}
use Rattle.pci_function.proofs.FirstDecoded.{first_of_chain}
use Rattle.pci_listing.specs.CapabilityLines.{IsListed}
use Rattle.pci_listing.specs.FunctionLines.{record_lines}
use Rattle.pci_listing.proofs.Chains.{listed, places_of-chain}
use Rattle.pci_listing.proofs.Functions.{three_more, function_listing-parts}
use Rattle.pci_listing.proofs.listing.function.push_function.Goals as goal

-- the layout of a header that is decoded
known : (n : ℕ) → not (n == 0 || n == 1) ≡ false → n < 2
known n e = elim (cases_lt n 2) [
  | inl low ↦ low
  | inr past ↦
      let device : (n == 0) ≡ false = ne_eqb n 0 (λ z. omega (arith, z, past)) in
      let bridge : (n == 1) ≡ false = ne_eqb n 1 (λ z. omega (arith, z, past)) in
      absurd (both_ways _ e (rw (device, bridge) refl))
]

number_of : (n : ℕ) (l : Layout) → n < 2 → is_of_bridge l ≡ (n == 1) → layout_number l ≡ n
number_of n Device low is = let no = eqb-false n 1 (sym is) in omega (arith, low, no)
number_of n Bridge low is = sym (eqb-true n 1 (sym is))

pub of-first-requires : goal.of-first-requires
of-first-requires g c =
    number_of (layout c.args.image.now.0) c.or_device.result (known _ c.in-Ok.ensures.decoded.decodable.header) c.or_device.ensures

pub push_capabilities-requires : goal.push_capabilities-requires
push_capabilities-requires g c =
    let each = listed c.args.image.now.0 c.in-Ok-chain.caps.items c.in-Ok-chain.ensures.places c.in-Ok-chain.ensures.bodies in
    let P : List Cap → Type 0 = All (IsListed c.args.image.now.0) in
    subst P (sym c.as_slice.ensures.value) each

pub returns-in-Err-clause-refused : goal.returns-in-Err-clause-refused
returns-in-Err-clause-refused g c = record {
  of_image = c.in-Err.fault;
  named = c.of_image.ensures;
  there = c.in-Err.ensures.decoded;
  first = c.in-Err.ensures.first;
}

pub returns-in-Err-chain-clause-refused : goal.returns-in-Err-chain-clause-refused
returns-in-Err-chain-clause-refused g c =
    let f : Function = record { slot = c.args.slot; image = c.args.image.now.0; probe = c.args.probe.now.0 } in
    let d = c.in-Ok.ensures.decoded.decodable in
    record {
      of_image = c.in-Err-chain.fault;
      named = c.of_image-in-Err-chain.ensures;
      there = chain_fault f c.in-Err-chain.fault c.in-Err-chain.ensures.fault;
      first = first_of_chain f c.in-Err-chain.fault record { bars = d.bars; rom = d.rom; windows = d.windows } c.in-Err-chain.ensures.first;
    }

pub returns-clause-listable : goal.returns-clause-listable
returns-clause-listable g c = (c.in-Ok.ensures.decoded.decodable, c.in-Ok-chain.ensures.lawful.0 refl)

pub returns-clause-ok : goal.returns-clause-ok
returns-clause-ok g c =
    let f : Function = record { slot = c.args.slot; image = c.args.image.now.0; probe = c.args.probe.now.0 } in
    let image = c.args.image.now.0 in
    let caps = c.in-Ok-chain.caps.items in
    let start = string_bytes c.args.text.now in
    let few : length (map place_of caps) ≤ 48 = omega (arith, length-map caps place_of, ap length c.as_slice.ensures.value, c.as_slice.ensures.fits) in
    let places = places_of-chain image (map place_of caps) c.in-Ok-chain.ensures.places few in
    let same : map place_of c.as_slice.result.now ≡ places_of image = ap (λ xs. map place_of xs) c.as_slice.ensures.value ∙ sym places in
    three_more start (header_line c.args.slot image) (record_lines (record_of f)) (flat_map (capability_line image) (places_of image))
    (c.in_ok-push_to.ensures ∙ ap (λ x. start ++ x) c.of-first.ensures)
    (c.in_ok-push_record.ensures ∙ ap (λ r. string_bytes c.push_to.new.text ++ record_lines r) c.in-Ok.ensures.decoded.same)
    (c.in_ok-push_capabilities.ensures ∙ ap (λ ps. string_bytes c.push_record.new.text ++ flat_map (capability_line image) ps) same)
    ∙ ap (λ l. start ++ l) (function_listing-parts f)
