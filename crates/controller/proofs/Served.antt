-- From what an outcome is to what its reply and its world are.
use Rattle.std.proofs.Common.{◌≡◌, ℕ, ◌≤◌, List, ◌++◌, length, take, drop, Ok, Result, sym, ap, ◌∙◌, arith, append_assoc, length-append, length-take}
use Rattle.std.proofs.lemmas.List.{drop-append-le, take-append-drop}
use Rattle.std.proofs.lemmas.Bool.{cond-true, le-leb}
use Rattle.packet.specs.declared.fault.PacketFault.{PacketFault}
use Rattle.packet.specs.Commands.{Command}
use Rattle.packet.specs.Packets.{decoded}
use Rattle.build.specs.Builds.{front}
use Rattle.model.specs.Answers.{Answer, reply_of}
use Rattle.model.specs.Worlds.{World}
use Rattle.model.specs.Steps.{packet as sent, obey, obey_said, step}
use Rattle.model.specs.Laws.{Does}
use Rattle.model.proofs.Whole.{does}
use Rattle.controller.specs.declared.serve.ServeRefusal.{ServeRefusal}
use Rattle.controller.specs.Serves.{Performed, Served, replied}

-- a packet that was served keeps the laws
pub served_does : (v : World) (packet before after : List ℕ) (r : Result ℕ ServeRefusal) (w : World) → Served v packet before after r w → Does v (sent (length before) packet) (step v (sent (length before) packet)).0 w
served_does v packet before after r w s =
    let q = sent (length before) packet in
    let a = (step v q).0 in
    does v q a w (ap (λ (x : World). (a, x)) s.leads)

-- a packet that says a command, once that is performed
pub served_command : (v : World) (packet before after : List ℕ) (n : ℕ) (w : World) (c : Command) → 1025 ≤ length before → Ok c ≡ decoded packet → Performed (obey v c) n before after w → Served v packet before after (Ok n) w
served_command v packet before after n w c room is p =
    let q = sent (length before) packet in
    let t = le-leb 1025 (length before) room in
    let s : step v q ≡ obey v c = cond-true _ _ _ t ∙ ap (obey_said v) (sym is) in
    let ok : ℕ → Result ℕ ℕ = λ i. Ok i in
    record {
      counted = ap ok p.counted ∙ ap (λ (o : Answer × World). ok (length (reply_of o.0))) (sym s) ∙ ap (λ (d : Result Command PacketFault). replied d (step v q).0) is ∙ sym (cond-true _ _ _ t);
      reply = p.reply ∙ ap (λ (o : Answer × World). front (reply_of o.0) before) (sym s);
      leads = ap (λ (o : Answer × World). o.1) s ∙ p.leads;
    }

-- what a reply at the front leaves behind it, longer or not
front-longer : (bytes chunk after rest : List ℕ) → length after ≡ length chunk → after ≡ front bytes chunk → after ++ rest ≡ front bytes (chunk ++ rest)
front-longer bytes chunk after rest same is =
    let total = ap (λ (xs : List ℕ). length xs) is in
    let fits : length bytes ≤ length chunk = omega (arith, length-append bytes (drop (length bytes) chunk)) in
    rw is (append_assoc bytes (drop (length bytes) chunk) rest ∙ ap (λ (xs : List ℕ). bytes ++ xs) (sym (drop-append-le (length bytes) chunk rest fits)))

-- a packet that was served in the front of a longer buffer
pub served_longer : (v : World) (packet buffer after : List ℕ) (r : Result ℕ ServeRefusal) (w : World) → 1025 ≤ length buffer → length after ≡ 1025 → Served v packet (take 1025 buffer) after r w → Served v packet buffer (after ++ drop 1025 buffer) r w
served_longer v packet buffer after r w room long s =
    let chunk = take 1025 buffer in
    let full : length chunk ≡ 1025 = omega (arith, length-take 1025 buffer) in
    let t = le-leb 1025 (length buffer) room in
    let t' = le-leb 1025 (length chunk) (omega arith) in
    let same : step v (sent (length chunk) packet) ≡ step v (sent (length buffer) packet) = cond-true _ _ _ t' ∙ sym (cond-true _ _ _ t) in
    let whole = front-longer (reply_of (step v (sent (length chunk) packet)).0) chunk after (drop 1025 buffer) (omega arith) s.reply in
    record {
      counted = s.counted ∙ cond-true _ _ _ t' ∙ ap (λ (o : Answer × World). replied (decoded packet) o.0) same ∙ sym (cond-true _ _ _ t);
      reply = whole ∙ ap (λ (o : Answer × World). front (reply_of o.0) (chunk ++ drop 1025 buffer)) same ∙ ap (λ (b : List ℕ). front (reply_of (step v (sent (length buffer) packet)).0) b) (take-append-drop 1025 buffer);
      leads = ap (λ (o : Answer × World). o.1) (sym same) ∙ s.leads;
    }
