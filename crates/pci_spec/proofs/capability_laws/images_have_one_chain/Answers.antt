use Rattle.pci_spec.proofs.CapabilityLaws.{chain_has_at_most_48_places, chain_places_are_aligned, image_has_one_chain}
use Rattle.pci_spec.proofs.capability_laws.images_have_one_chain.Goals as goal

pub returns-clause-most : goal.returns-clause-most
returns-clause-most c = chain_has_at_most_48_places

pub returns-clause-aligned : goal.returns-clause-aligned
returns-clause-aligned c = chain_places_are_aligned

pub returns-clause-one : goal.returns-clause-one
returns-clause-one c = image_has_one_chain
