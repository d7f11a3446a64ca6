-- What the letters of a tunnel are made of may be read again.
use Rattle.std.proofs.Common.{IfSome, Option, None, ◌≡◌, ℕ, ◌<◌, ◌≤◌, Bool, true, false, cond, List, [], ◌∷◌, ◌++◌, length, refl, sym, ◌∙◌, Some, arith}
use Rattle.std.proofs.lemmas.Option.{none-some}
use Rattle.std.proofs.lemmas.List.{length-append}
use Rattle.std.proofs.lemmas.Fmt.{length-decimal-le}
use Rattle.std.specs.Fmt.{decimal}
use Rattle.std.specs.Prelude.{◌==◌}
use Rattle.md5.proofs.StandardFacts.{length-md5}
use Rattle.id_table.specs.Ids.{at-none}
use Rattle.wire_base.specs.declared.letter.Letter.{Letter}
use Rattle.control_message.specs.declared.message.Message.{Message}
use Rattle.control_channel.specs.Numbers.{learnt_by}
use Rattle.end_model.specs.declared.tunnel.Config.{Config}
use Rattle.end_model.specs.declared.tunnel.Control.{Control}
use Rattle.end_names.specs.declared.role.Role.{Role}
use Rattle.end_names.specs.declared.role.Role.TheVariants.{Lac, Lns}
use Rattle.end_names.specs.Names.{node_of, host_name, calling_number}
use Rattle.end_model.specs.Calls.{advanced, rung, asked_for}
use Rattle.end_model.specs.Channels.{letter_of, letter_as, learns_window}
use Rattle.end_model.specs.Messages.{opening_of, request_of}
use Rattle.step_laws.specs.Moves.{Asks, Responds}
use Rattle.frame_laws.specs.Plain.{HidesOk}
use Rattle.frame_laws.specs.Written.{IsWritten, IsWrittenOpening}
use Rattle.frame_laws.proofs.Whole.{whole}
use Rattle.frame_laws.proofs.Facts.{Nodes, NamesItsCall, CallsOk, LetterOk, LettersOk, all_push}

-- ---- messages that are written

pub name_fits : (r : Role) (n : ℕ) → n < 256 → length (host_name r n) ≤ 1017
unfolding host_name
name_fits r n lt = by r (length-decimal-le 3 n (omega arith) (omega arith) (omega arith))
  where
    by : (r : Role) → length (decimal n) ≤ 3 → length (host_name r n) ≤ 1017
    by Lac le = simp length-append (omega arith)
    by Lns le = simp length-append (omega arith)

-- what is asked fits into a pair, and what is answered has 16 bytes
pub asks_short : (secret challenge : Option (List ℕ)) → Asks secret challenge → IfSome challenge (λ v. length v ≤ 1017)
asks_short None challenge is = rw is tt
asks_short (Some s) challenge is = let sized = is.2 in rw is.1 (omega (arith, sized))

pub responds_sized : (kind : ℕ) (secret asked response : Option (List ℕ)) → Responds kind secret asked response
    → IfSome response (λ v. length v ≡ 16)
responds_sized kind None asked response is = rw is tt
responds_sized kind (Some s) None response is = rw is tt
responds_sized kind (Some s) (Some a) response is = rw is (length-md5 (kind ∷ s ++ a))

pub opening_written : (r : Role) (c : Config) (challenge response : Option (List ℕ)) (local : ℕ) → c.number < 256 → 0 < local
    → local < 65536
    → IfSome challenge (λ v. length v ≤ 1017) → IfSome response (λ v. length v ≡ 16)
    → IsWrittenOpening (opening_of r c challenge response local)
opening_written r c challenge response local lt some fits short sized =
    record {
      version = refl;
      framing = omega arith;
      name = name_fits r c.number lt;
      tunnel = fits;
      tunnel_not_zero = some;
      window = omega arith;
      window_not_zero = omega arith;
      failover = (omega arith, omega arith);
      challenge = short;
      response = sized;
      recovery = refl;
      suggested = refl;
      attempt = refl;
    }

pub request_written : ((who : List ℕ) → length (calling_number who) ≡ 12) → (s : ℕ) (who : List ℕ) → s < 65536
    → IsWritten (request_of s who)
request_written digits s who fits = (omega arith, omega arith, (let d = digits who in omega arith))

pub asked_remote : (r : Role) (remote moment : ℕ) → (asked_for r remote moment).remote ≡ remote
unfolding asked_for advanced
asked_remote r remote moment = refl

pub rung_remote : (r : Role) (who : List ℕ) (moment : ℕ) → (rung r who moment).remote ≡ 0
unfolding rung advanced
rung_remote r who moment = refl

-- a call that is made has no link yet
pub asked_link : (r : Role) (remote moment : ℕ) → (asked_for r remote moment).link ≡ None
unfolding asked_for advanced
asked_link r remote moment = refl

pub rung_link : (r : Role) (who : List ℕ) (moment : ℕ) → (rung r who moment).link ≡ None
unfolding rung advanced
rung_link r who moment = refl

pub no_calls : (ns : Nodes) (n : ℕ) (r : Role) (bound peer : ℕ) → CallsOk ns n r bound peer []
no_calls ns n r bound peer s c f = absurd (none-some c (sym (at-none s) ∙ f))

-- the ids of a control stay when the peer's window becomes known
pub record SameIds (c d : Control) : Type 0 where
  pub local : d.local ≡ c.local
  pub peer : d.peer ≡ c.peer
  pub remote : d.remote ≡ c.remote

pub learnt : (window : ℕ) (c : Control) → SameIds c (learns_window window c)
learnt window c = by (window == 0)
  where
    by : (none : Bool) → SameIds c (cond none c (record c { channel = learnt_by c.channel window }))
    by true = record { local = refl; peer = refl; remote = refl }
    by false = record { local = refl; peer = refl; remote = refl }

-- a letter, plain or not
pub letter_ok : (calm : Bool) (ns : Nodes) (n peer session : ℕ) (m : Message) (hidden : Option (List ℕ)) → HidesOk m hidden
    → session < 65536 → IsWritten m
    → NamesItsCall ns n (node_of peer) session m → LetterOk calm ns n peer (letter_as session m hidden)
letter_ok calm ns n peer session m None hides fits written names =
    record {
      message = m;
      hidden = None;
      hides = hides;
      spelt = refl;
      session = fits;
      written = whole m written;
      plainly = λ still. written;
      names = names;
    }
letter_ok calm ns n peer session m (Some pairs) hides fits written names =
    record {
      message = m;
      hidden = Some pairs;
      hides = hides;
      spelt = refl;
      session = fits;
      written = whole m written;
      plainly = λ still. written;
      names = names;
    }

-- one more letter is given
pub one_more : (calm : Bool) (ns : Nodes) (n peer : ℕ) (ls : List Letter) → LettersOk calm ns n peer ls → (session : ℕ) (m : Message)
    → session < 65536 → IsWritten m
    → NamesItsCall ns n (node_of peer) session m → LettersOk calm ns n peer (ls ++ letter_of session m ∷ [])
one_more calm ns n peer ls olds session m fits written names =
    all_push (LetterOk calm ns n peer) ls (letter_of session m) olds (letter_ok calm ns n peer session m None tt fits written names)
