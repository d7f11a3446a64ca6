-- What is sent is read again.
use Rattle.std.proofs.Common.{◌≡◌, ◌≢◌, ℕ, ◌≤◌, ◌<◌, ◌^◌, List, [], ◌++◌, length, Option, Some, None, Ok, refl, arith}
use Rattle.wire_base.specs.declared.cause.Cause.{Cause}
use Rattle.wire_base.specs.declared.cause.Cause.TheVariants as cause
use Rattle.wire_base.specs.Words.{cause_word}
use Rattle.pppoe_wire.specs.declared.frame.Pppoe.{Pppoe}
use Rattle.pppoe_wire.specs.declared.frame.Tag.{Tag}
use Rattle.pppoe_wire.specs.Spelling.{frame_bytes, FitsFrame, spelling, FitsTag, AreTags}
use Rattle.pppoe_wire.specs.Reading.{frame_of, tags_of}
use Rattle.pppoe_discovery.specs.Asking.{IsShort}
use Rattle.pppoe_discovery.specs.Replies.{tag, echo, echoes, error_kind, pado_tags, pads_tags, refusal_tags, sent}
use Rattle.pppoe_discovery.specs.Laws.{IsRead, AreAddresses, ReadsOffer, ReadsAnswer, ReadsRefusal, ReadsEnd}
use Rattle.pppoe_discovery.proofs.Sizes.{pado_fits, pads_fit, refusal_fits, word_fits}

-- what pppoe_wire's law says
pub record ReadsAgain : Type 0 where
  pub frame : (f : Pppoe) (padding : List ℕ) → FitsFrame f → frame_of (frame_bytes f ++ padding) ≡ Ok f
  pub tags : (v : List Tag) → AreTags v → tags_of (spelling v) ≡ Ok v

-- ---- tags

one : (kind : ℕ) (value : List ℕ) → kind < 2 ^ 16 → kind ≢ 0 → length value ≤ 65535 → FitsTag (tag kind value)
one kind value lt ne le = record { kind = lt; other = ne; value = le }

echo_are : (kind : ℕ) (value : Option (List ℕ)) (rest : List Tag) → kind < 2 ^ 16 → kind ≢ 0 → IsShort value → AreTags rest → AreTags (echo kind value ++ rest)
echo_are kind None rest lt ne h are = are
echo_are kind (Some v) rest lt ne h are = (one kind v lt ne (omega (arith, h)), are)

last_are : (kind : ℕ) (value : Option (List ℕ)) → kind < 2 ^ 16 → kind ≢ 0 → IsShort value → AreTags (echo kind value)
last_are kind None lt ne h = tt
last_are kind (Some v) lt ne h = (one kind v lt ne (omega (arith, h)), tt)

echoes_are : (uniq relay : Option (List ℕ)) → IsShort uniq → IsShort relay → AreTags (echoes uniq relay)
echoes_are uniq relay u r = echo_are 0x0103 uniq (echo 0x0110 relay) (omega arith) (omega arith) u (last_are 0x0110 relay (omega arith) (omega arith) r)

pado_are : (service name cookie : List ℕ) (uniq relay : Option (List ℕ)) → length service ≤ 2048 → length name ≤ 255 → length cookie ≡ 16 → IsShort uniq → IsShort relay → AreTags (pado_tags service name cookie uniq relay)
pado_are service name cookie uniq relay s n k u r =
    (one 0x0101 service (omega arith) (omega arith) (omega arith), (one 0x0102 name (omega arith) (omega arith) (omega arith), (one 0x0104 cookie (omega arith) (omega arith) (omega arith), echoes_are uniq relay u r)))

record IsErrorKind (kind : ℕ) : Type 0 where
  least : 0x0201 ≤ kind
  most : kind ≤ 0x0203

error_kinds : (why : Cause) → IsErrorKind (error_kind why)
error_kinds cause.Service = record { least = omega arith; most = omega arith }
error_kinds cause.Cookie = record { least = omega arith; most = omega arith }
error_kinds why = record { least = omega arith; most = omega arith }

pads_are : (service : List ℕ) (uniq relay : Option (List ℕ)) → length service ≤ 2048 → IsShort uniq → IsShort relay → AreTags (pads_tags service uniq relay)
pads_are service uniq relay s u r = (one 0x0101 service (omega arith) (omega arith) (omega arith), echoes_are uniq relay u r)

refusal_are : (because : Cause) (uniq relay : Option (List ℕ)) → IsShort uniq → IsShort relay → AreTags (refusal_tags because uniq relay)
refusal_are because uniq relay u r =
    let k = error_kinds because in
    let a = k.least in
    let b = k.most in
    let w = word_fits because in
    (one (error_kind because) (cause_word because) (omega arith) (omega arith) (omega arith), echoes_are uniq relay u r)

-- ---- frames

sent_again : ReadsAgain → (mac dst padding : List ℕ) (code session : ℕ) (tags : List Tag) → AreAddresses mac dst → session < 2 ^ 16 → length (spelling tags) ≤ 65535 → AreTags tags → IsRead (frame_bytes (sent mac dst code session (spelling tags)) ++ padding) (sent mac dst code session (spelling tags)) tags
sent_again law mac dst padding code session tags addresses lt le are =
    (law.frame (sent mac dst code session (spelling tags)) padding (record { dst = addresses.host; src = addresses.own; session = lt; payload = le; starts = refl; ends = refl }), law.tags tags are)

pub reads_offer : ReadsAgain → ReadsOffer
reads_offer law mac dst service name cookie padding uniq relay addresses s n k u r =
    sent_again law mac dst padding 0x07 0 (pado_tags service name cookie uniq relay) addresses (omega arith) (pado_fits service name cookie uniq relay s n k u r) (pado_are service name cookie uniq relay s n k u r)

pub reads_answer : ReadsAgain → ReadsAnswer
reads_answer law mac dst service padding session uniq relay addresses lt s u r =
    sent_again law mac dst padding 0x65 session (pads_tags service uniq relay) addresses lt (pads_fit service uniq relay s u r) (pads_are service uniq relay s u r)

pub reads_refusal : ReadsAgain → ReadsRefusal
reads_refusal law mac dst padding because uniq relay addresses u r =
    sent_again law mac dst padding 0x65 0 (refusal_tags because uniq relay) addresses (omega arith) (refusal_fits because uniq relay u r) (refusal_are because uniq relay u r)

pub reads_end : ReadsAgain → ReadsEnd
reads_end law mac dst padding session addresses lt = sent_again law mac dst padding 0xa7 session [] addresses lt (omega arith) tt
