-- The laws of the encoding of a batch's mark.
use Rattle.std.specs.Prelude.{◌≡◌}
use Rattle.sled_base.specs.declared.types.BatchManifest.{BatchManifest}
use Rattle.sled_base.specs.Payloads.Reading.{IsGrammar}
use Rattle.sled_base.specs.Payloads.ReadingLaws.{By-grammar}
use Rattle.sled_base.specs.Payloads.NumberLaws.{I64-grammar}
use Rattle.sled_base.specs.Payloads.Manifests.{place_in, ReadsManifest, written_manifest, CanWriteManifest}

same_mark : (v w : BatchManifest) → place_in v ≡ place_in w → v ≡ w
same_mark v w e = λ i. record { 0 = e i }

pub Manifest-grammar : IsGrammar ReadsManifest written_manifest CanWriteManifest (λ _ _. Unit {0}) 8
Manifest-grammar = By-grammar place_in same_mark I64-grammar
