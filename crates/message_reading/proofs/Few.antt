-- A message that names sessions has a pair for each beside its type, and these have room in its body.
use Rattle.std.proofs.Common.{◌≡◌, ℕ, ◌+◌, ◌*◌, ◌≤◌, List, [], ◌∷◌, ◌++◌, length, ap, subst, ◌∙◌, inl, inr, arith, Ok}
use Rattle.wire_base.specs.declared.pair.Pair.{Pair}
use Rattle.avp_codec.specs.declared.avp.Avp.{Avp}
use Rattle.l2tp_datagram.specs.Bodies.{room_of}
use Rattle.control_message.specs.declared.kind.Kinds.{Kinds}
use Rattle.control_message.specs.declared.message.Message.{Message}
use Rattle.control_message.specs.declared.message.Message.TheVariants.{Sccrq, Sccrp, Scccn, StopCcn, Hello, Ocrq, Ocrp, Occn, Icrq, Icrp, Iccn, Cdn, Wen, Sli, Fsq, Fsr}
use Rattle.control_message.specs.Grammar.{IsAt, TellsSession, SaysSessions, SaysKnown}
use Rattle.message_reading.specs.Few.{HasFew}

told_room : (a : Avp) (p : Pair) (ps sessions : List Pair) (rest : ℕ) → TellsSession a p → sessions ≡ p ∷ ps → 16 * length ps ≤ rest
    → 16 * length sessions ≤ 6 + length a.value + rest
told_room a p ps sessions rest tells is h = rw is (let wide = tells.wide in omega arith)

-- each session has sixteen bytes
sessions_room : (avps : List Avp) (sessions : List Pair) → SaysSessions avps sessions → 16 * length sessions ≤ room_of avps
sessions_room [] sessions says = rw says (omega arith)
sessions_room (a ∷ avps) sessions (inl says) = let h = sessions_room avps sessions says.1 in omega arith
sessions_room (a ∷ avps) sessions (inr says) = told_room a says.0 says.1 sessions (room_of avps) says.2 says.3 (sessions_room avps says.1 says.4)

-- and the type has eight
typed_room : (before after : List Avp) (type : Avp) (sessions : List Pair) → IsAt 0 type → length type.value ≡ 2
    → SaysSessions (before ++ type ∷ after) sessions → 8 + 16 * length sessions ≤ room_of (before ++ type ∷ after)
typed_room [] after type sessions is wide (inl says) = let h = sessions_room after sessions says.1 in omega arith
typed_room [] after type sessions is wide (inr says) = let other = says.2.is in absurd cc
typed_room (b ∷ before) after type sessions is wide (inl says) =
    let h = typed_room before after type sessions is wide says.1 in omega arith
typed_room (b ∷ before) after type sessions is wide (inr says) =
    let h = typed_room before after type says.1 is wide says.4 in
    let tells = says.2.wide in
    rw says.3 (omega arith)

few_by : (avps : List Avp) (sessions : List Pair) (known : Kinds) (m : Message) → SaysKnown known avps m → SaysSessions avps sessions
    → room_of avps ≤ 65523 → length sessions ≤ 4094
few_by avps sessions known m says told room =
    let value = says.number.has in
    let first = value.first in
    let wide : length value.pair.value ≡ 2 = ap (λ (v : List ℕ). length v) value.same ∙ says.number.wide in
    let parts = subst (λ v. SaysSessions v sessions) first.parts told in
    let fits = subst (λ v. room_of v ≤ 65523) first.parts room in
    omega (arith, typed_room first.before first.after value.pair sessions first.is wide parts, fits)

-- so it names few
pub few_said : (known : Kinds) (avps : List Avp) (m : Message) → SaysKnown known avps m → room_of avps ≤ 65523 → HasFew (Ok m)
few_said known avps (Fsq sessions) says room = few_by avps sessions known (Fsq sessions) says says.says room
few_said known avps (Fsr sessions) says room = few_by avps sessions known (Fsr sessions) says says.says room
few_said known avps (Sccrq o) says room = tt
few_said known avps (Sccrp o) says room = tt
few_said known avps (Scccn response) says room = tt
few_said known avps (StopCcn tunnel result error) says room = tt
few_said known avps Hello says room = tt
few_said known avps (Ocrq session) says room = tt
few_said known avps Ocrp says room = tt
few_said known avps Occn says room = tt
few_said known avps (Icrq session serial calling) says room = tt
few_said known avps (Icrp session) says room = tt
few_said known avps (Iccn speed framing sequenced) says room = tt
few_said known avps (Cdn session result error) says room = tt
few_said known avps Wen says room = tt
few_said known avps Sli says room = tt
