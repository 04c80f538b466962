-- The lines of the bytes of one connection.
use Rattle.std.specs.Prelude.{ℕ, ◌-◌, Bool, List, [], ◌++◌, length, flat_map, codes, decimal, Option, Some, None, is_some}
use Rattle.artery_frame.specs.declared.fault.FrameFault.{FrameFault}
use Rattle.artery_frame.specs.declared.fault.FrameFault.TheVariants.{BadMagic, BadStream, TooLong}
use Rattle.artery_frame.specs.declared.stream.Stream.{Stream}
use Rattle.artery_frame.specs.Stream.{Reading, reading_of, id_of}
use Rattle.artery_capture.specs.FrameText.{frame_lines}

-- what the connection carries, once its preamble is whole and right
abbrev pub stream_line : Option Stream → List ℕ
stream_line None = []
stream_line (Some stream) = codes "stream " ++ decimal (id_of stream) ++ codes "\n"

-- the lines of a reading: what the connection carries, and those of its whole frames in order
abbrev pub reading_lines : Reading → List ℕ
reading_lines r = stream_line r.stream ++ flat_map frame_lines r.frames

-- the lines of the whole frames among the first bytes of a connection
abbrev pub front_lines : List ℕ → List ℕ
front_lines bytes = reading_lines (reading_of bytes)

-- the word for a fault of the stream
abbrev pub stream_fault_word : FrameFault → List ℕ
stream_fault_word (BadMagic at) = codes "bad-magic"
stream_fault_word (BadStream id) = codes "bad-stream"
stream_fault_word (TooLong len) = codes "too-long"

-- how many bytes are no whole preamble or frame
abbrev pub rest_line : ℕ → List ℕ
rest_line count = codes "rest " ++ decimal count ++ codes "\n"

-- the fault of the stream and its place
abbrev pub fault_line : FrameFault → ℕ → List ℕ
fault_line fault offset = codes "fault stream " ++ stream_fault_word fault ++ codes " " ++ decimal offset ++ codes "\n"

-- the last line: how many bytes are left over, or the fault
abbrev pub end_line : Option FrameFault → ℕ → ℕ → List ℕ
end_line None offset len = rest_line (len - offset)
end_line (Some fault) offset len = fault_line fault offset

-- the last line of a connection with all these bytes
abbrev pub last_line : List ℕ → List ℕ
last_line bytes = end_line (reading_of bytes).end (reading_of bytes).offset (length bytes)

-- whether the bytes have a fault of the stream
abbrev pub has_fault : List ℕ → Bool
has_fault bytes = is_some (reading_of bytes).end
