use Rattle.std.specs.Prelude.{false}
use Rattle.artery_laws.proofs.Networks.{is_whole}
use Rattle.artery_laws.proofs.laws.a_network_is_whole.Goals as goal

pub returns : goal.returns
returns c = is_whole (record {
  sent_start = c.keeping_stands.ensures.start;
  sent_answer = c.keeping_stands.ensures.answer;
  sent_accept = c.keeping_stands.ensures.accept;
  sent_learn = c.keeping_stands.ensures.learn;
  sent_forget = c.keeping_stands.ensures.forget;
  sent_acked = c.keeping_stands.ensures.acked;
  sent_ack = c.keeping_stands.ensures.ack;
  sent_nack = c.keeping_stands.ensures.nack;
  sent_rewind = c.keeping_stands.ensures.rewind;
  sent_next = c.keeping_stands.ensures.next;
  sent_pump = c.keeping_stands.ensures.pump;
  sent_messages = c.keeping_stands.ensures.messages;
  taken_start = c.expecting_stands.ensures.start;
  taken_open = c.expecting_stands.ensures.open;
  taken_takes = c.expecting_stands.ensures.takes;
  taken_take = c.expecting_stands.ensures.take;
  told_start = c.keeping_stands-2.ensures.start;
  told_count = c.keeping_stands-2.ensures.count;
  told_answer = c.keeping_stands-2.ensures.answers;
  told_advertise = c.keeping_stands-2.ensures.advertise;
  told_confirms = c.keeping_stands-2.ensures.confirms;
  told_confirm = c.keeping_stands-2.ensures.confirm;
  told_open = c.keeping_stands-2.ensures.announced;
  told_number = c.keeping_stands-2.ensures.number;
  told_entry = c.keeping_stands-2.ensures.entry;
  held_start = c.adopting_stands.ensures.start;
  held_adopt = c.adopting_stands.ensures.adopt;
  beat_start = c.keeping_stands-3.ensures.start;
  beat_ask = c.keeping_stands-3.ensures.ask;
  beat_hear = c.keeping_stands-3.ensures.heartbeat;
  beat_available = c.keeping_stands-3.ensures.available;
  frames = record {
    start = c.keeping_stands-4.ensures.start false;
    fed = c.keeping_stands-4.ensures.fed;
    answer = c.keeping_stands-4.ensures.answer;
    given = c.keeping_stands-4.ensures.given;
    less = c.holding_stands.ensures.less;
    longer = c.one_reading.ensures.longer;
  };
})
