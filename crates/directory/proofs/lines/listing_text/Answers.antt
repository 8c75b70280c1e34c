-- The records that were read are those of the font.
use Rattle.std.proofs.Common.{◌≡◌, string_bytes, ◌∙◌}
use Rattle.std.proofs.lemmas.Result.{IfOk-weaker}
use Rattle.read.specs.Scopes.{slice}
use Rattle.arrays.specs.Arrays.{array}
use Rattle.directory.specs.Listing.{directory_text_of, listing_of}
use Rattle.directory.proofs.Records.{text_same}
use Rattle.directory.proofs.lines.listing_text.Goals as goal

pub returns-in-Ok : goal.returns-in-Ok
returns-in-Ok c =
    let d = c.in-Ok.directory in
    let same = text_same (slice c.args.font) d.header (array d.records) c.in-Ok.ensures.header c.in-Ok.ensures.records in
    IfOk-weaker c.to_string.result (λ s. string_bytes s ≡ directory_text_of d.header (array d.records)) (λ s. string_bytes s ≡ listing_of c.args.font.now) (λ s e. e ∙ same) c.to_string.ensures.ok
